-- What an epoch draws depends on the values of the names of its own epoch alone.
use Rattle.std.proofs.Common.{◌≡◌, ℕ, ◌+◌, List, [], ◌∷◌, ◌++◌, map, refl, sym, ap, ◌∙◌}
use Rattle.std.specs.List.{range_with_len, list_any}
use Rattle.std.specs.Prelude.{filter, not, if◌then◌else◌}
use Rattle.std.proofs.lemmas.List.{map-append}
use Rattle.client_registry.specs.Acceptance.{dummy_entries, dummy_blocks}
use Rattle.client_registry.specs.Command.{Command, Add, Delete, Search}
use Rattle.client_registry.specs.Live.{live}
use Rattle.client_registry.specs.Over.{over}
use Rattle.client_registry.specs.Run.{Run, Offsets}
use Rattle.client_registry.specs.Setup.{Setup, setup_words}
use Rattle.keyed_fn.specs.Xored.{xored}
use Rattle.sse_frames.specs.Frames.{Entry}
use Rattle.def_leakage.proofs.Draws.{ranks_in, draws_of_setup, draws_by, draws-by_command}
use Rattle.def_leakage.specs.DrawnValues.{draws}
use Rattle.sse_model.specs.Drawn.{was_sent, searches_for}
use Rattle.sse_model.specs.Names.{Name, Table, Kind, name, Token, Revocation}
use Rattle.sse_model.specs.Positions.{Position, word_blocks, block_position, entry_position, entries_from, blocks_from, dummy_entry, dummy_block, entry_positions, block_positions, fresh_words, sealed, ranks_of}
use Rattle.sse_model.specs.Wire.{labels_in, words_live}
use Rattle.sse_simulator.specs.Leaks.{EntryDraw, BlockDraw, NumberDraw, TokenDraw}

module _ (t u : Table) (e : ℕ) (same : (word : List ℕ) (kind : Kind) (number : ℕ) → t (name e word kind number) ≡ u (name e word kind number)) where
  -- a position of the epoch, sealed
  abbrev Sealed : Position → Type 0
  Sealed p = (t p.label ≡ u p.label) × (t p.pad ≡ u p.pad)

  one_sealed : (ranks : List ℕ) (p : Position) → Sealed p → sealed t ranks p ≡ sealed u ranks p
  one_sealed ranks p s = λ i. record { label = s.0 i; text = xored (p.clear ranks) (s.1 i) }

  all_sealed : {X : Type 0} (ranks : List ℕ) (f : X → Position) (xs : List X) → ((x : X) → Sealed (f x)) → map (sealed t ranks) (map f xs) ≡ map (sealed u ranks) (map f xs)
  all_sealed ranks f [] each = refl
  all_sealed ranks f (x ∷ xs) each = λ i. one_sealed ranks (f x) (each x) i ∷ all_sealed ranks f xs each i

  both : (ranks : List ℕ) (ps qs : List Position) → map (sealed t ranks) ps ≡ map (sealed u ranks) ps → map (sealed t ranks) qs ≡ map (sealed u ranks) qs → map (sealed t ranks) (ps ++ qs) ≡ map (sealed u ranks) (ps ++ qs)
  both ranks ps qs one other = map-append (sealed t ranks) ps qs ∙ (λ i. one i ++ other i) ∙ sym (map-append (sealed u ranks) ps qs)

  module _ (s : Setup) where
    same_entries : (ranks : List ℕ) (first : ℕ) (words : List (List ℕ)) → map (sealed t ranks) (entries_from e s first words) ≡ map (sealed u ranks) (entries_from e s first words)
    same_entries ranks first [] = refl
    same_entries ranks first (w ∷ ws) = λ i. one_sealed ranks (entry_position e s first w) (same _ _ _, same _ _ _) i ∷ same_entries ranks (first + word_blocks s w) ws i

    same_blocks : (ranks : List ℕ) (first : ℕ) (words : List (List ℕ)) → map (sealed t ranks) (blocks_from e s first words) ≡ map (sealed u ranks) (blocks_from e s first words)
    same_blocks ranks first [] = refl
    same_blocks ranks first (w ∷ ws) =
        both ranks (map (block_position e s first w) (range_with_len 0 (word_blocks s w))) (blocks_from e s (first + word_blocks s w) ws)
        (all_sealed ranks (block_position e s first w) (range_with_len 0 (word_blocks s w)) (λ i. (same _ _ _, same _ _ _))) (same_blocks ranks (first + word_blocks s w) ws)

    all_entries : (ranks : List ℕ) → map (sealed t ranks) (entry_positions e s) ≡ map (sealed u ranks) (entry_positions e s)
    all_entries ranks =
        both ranks (entries_from e s 0 (setup_words s)) (map (dummy_entry e s) (range_with_len 0 (dummy_entries s)))
        (same_entries ranks 0 (setup_words s)) (all_sealed ranks (dummy_entry e s) (range_with_len 0 (dummy_entries s)) (λ i. (same _ _ _, same _ _ _)))

    all_blocks : (ranks : List ℕ) → map (sealed t ranks) (block_positions e s) ≡ map (sealed u ranks) (block_positions e s)
    all_blocks ranks =
        both ranks (blocks_from e s 0 (setup_words s)) (map (dummy_block e s) (range_with_len 0 (dummy_blocks s)))
        (same_blocks ranks 0 (setup_words s)) (all_sealed ranks (dummy_block e s) (range_with_len 0 (dummy_blocks s)) (λ i. (same _ _ _, same _ _ _)))

    labels_sealed : (v : Table) (ps : List Position) → map (λ (x : Entry). x.label) (map (sealed v []) ps) ≡ labels_in v ps
    labels_sealed v [] = refl
    labels_sealed v (p ∷ ps) = ap (λ rest. v p.label ∷ rest) (labels_sealed v ps)

    same_ranks : ranks_in t e s ≡ ranks_in u e s
    same_ranks = ap ranks_of (sym (labels_sealed t (block_positions e s)) ∙ ap (map (λ (x : Entry). x.label)) (all_blocks []) ∙ labels_sealed u (block_positions e s))

    same_setup : draws_of_setup t e s ≡ draws_of_setup u e s
    same_setup =
        (λ i. map EntryDraw (map (sealed t (same_ranks i)) (entry_positions e s)) ++ map BlockDraw (map (sealed t (same_ranks i)) (block_positions e s)))
        ∙ (λ i. map EntryDraw (all_entries (ranks_in u e s) i) ++ map BlockDraw (all_blocks (ranks_in u e s) i))

    same_command : (past : List Command) (c : Command) → draws_by t e s past c ≡ draws_by u e s past c
    same_command past (Add d) = ap (map EntryDraw) (all_sealed [] _ (fresh_words s past d) (λ word. (same _ _ _, same _ _ _)))
    same_command past (Delete id) = numbers (filter (λ word. not (was_sent s past word id)) (words_live (live s.documents past) id))
      where
        numbers : (words : List (List ℕ)) → map (λ word. NumberDraw (t (name e word Revocation id))) words ≡ map (λ word. NumberDraw (u (name e word Revocation id))) words
        numbers [] = refl
        numbers (w ∷ ws) = λ i. NumberDraw (same w Revocation id i) ∷ numbers ws i
    same_command past (Search word) = ap (λ value. if list_any (searches_for word) past then [] else TokenDraw value ∷ []) (same word Token 0)

    same_commands : (past later : List Command) → over (draws_by t e s) past later ≡ over (draws_by u e s) past later
    same_commands past [] = refl
    same_commands past (c ∷ later) = λ i. same_command past c i ∷ same_commands (past ++ c ∷ []) later i

-- tables that agree at the names of one epoch
abbrev pub AgreeAt : ℕ → Table → Table → Type 0
AgreeAt e t u = (n : Name) → n.epoch ≡ e → t n ≡ u n

pub draws-own_epoch : (t u : Table) (o : Offsets) (run : Run) → AgreeAt o.epoch t u → draws t o run ≡ draws u o run
draws-own_epoch t u o run agree =
    let same = λ (word : List ℕ) (kind : Kind) (number : ℕ). agree (name o.epoch word kind number) refl in
    draws-by_command t o run
    ∙ (λ i. same_setup t u o.epoch same run.setup i ∷ same_commands t u o.epoch same run.setup [] run.later i)
    ∙ sym (draws-by_command u o run)
