-- The frames of one command are in the grammar, where no two of its values that have to differ are equal.
use Rattle.std.proofs.Common.{◌≡◌, ℕ, ◌+◌, ◌^◌, ◌<◌, true, false, List, [], ◌∷◌, ◌++◌, map, filter, None, refl, sym, ap, ◌∙◌, subst, ⊎_elim}
use Rattle.std.specs.Prelude.{All, Contains, bytes_eq}
use Rattle.std.specs.List.{AllByRecursion, IsDistinct, range_with_len}
use Rattle.std.proofs.lemmas.Bool.{true≢false}
use Rattle.std.proofs.lemmas.List.Elements.{Contains-append_left, Contains-append_right, Contains-append_cases}
use Rattle.std.proofs.lemmas.Simd.{map-map}
use Rattle.keyed_fn.specs.KeyedFn.{KeyedFn, IsKeyedFn}
use Rattle.client_registry.proofs.DistinctLaws.{IsDistinct-first_clash}
use Rattle.client_registry.proofs.OrderLaws.{AreApart}
use Rattle.client_registry.specs.Acceptance.{dummy_entries, dummy_blocks, frames_needed, size_refusal}
use Rattle.client_registry.specs.Command.{Command, Add, Delete}
use Rattle.client_registry.specs.Document.{Document}
use Rattle.client_registry.specs.DocumentRule.{IsDocument}
use Rattle.client_registry.specs.Documents.{IsCollected}
use Rattle.client_registry.specs.Live.{counter, live}
use Rattle.client_registry.specs.Run.{Offsets}
use Rattle.client_registry.specs.Setup.{Setup, setup_words}
use Rattle.sse_frames.specs.Frames.{IsNumber, InGrammar, be64}
use Rattle.client_registry.specs.FirstClash.{first_clash}
use Rattle.sse_model.proofs.Counts.{AllByRecursion-append, AllByRecursion-each}
use Rattle.sse_model.proofs.DrawnOnce.{IsDistinct-words_live}
use Rattle.sse_model.proofs.KeyValues.{IsValue-table}
use Rattle.sse_model.proofs.LabelsApart.{IsOfClass, entries_have_labels, blocks_have_tags}
use Rattle.sse_model.proofs.Members.{Contains-map}
use Rattle.sse_model.proofs.SealedEntries.{IsTold, IsNamed}
use Rattle.sse_model.proofs.SetupGrammar.{setup_in_grammar}
use Rattle.sse_model.proofs.UpdateGrammar.{add_in_grammar, delete_in_grammar, few_words_live}
use Rattle.sse_model.specs.Compared.{collision_of_setup, collision_of}
use Rattle.sse_model.specs.Drawn.{is_compared, AreDistinct}
use Rattle.sse_model.specs.Names.{Name, name, PlusLabel, PlusPad, Revocation, Class, ListLabels, PlaceTags, PlusLabels, Revocations, class_of, Table, table}
use Rattle.sse_model.specs.Positions.{Position, word_blocks, block_position, dummy_entry, dummy_block, entries_from, blocks_from, entry_positions, block_positions, addition_positions, fresh_words, listed_words}
use Rattle.sse_model.specs.Wire.{labels_in, frames_of_setup, frames_of, words_live}
use Rattle.world_grammar.proofs.Apart.{of_member, map_none, both_none, apart-uncompared, apart-values, apart-append}

abbrev label_of : Position → Name
label_of p = p.label

abbrev pad_of : Position → Name
pad_of p = p.pad

-- the values of pads aren't compared
abbrev IsUncompared : Name → Type 0
IsUncompared n = is_compared (class_of n) ≡ false

abbrev HasPad : Position → Type 0
HasPad p = IsUncompared p.pad

cells_uncompared : (epoch : ℕ) (s : Setup) (first : ℕ) (words : List (List ℕ)) → AllByRecursion HasPad (entries_from epoch s first words)
cells_uncompared epoch s first [] = tt
cells_uncompared epoch s first (word ∷ words) = (refl, cells_uncompared epoch s (first + word_blocks s word) words)

arrays_uncompared : (epoch : ℕ) (s : Setup) (first : ℕ) (words : List (List ℕ)) → AllByRecursion HasPad (blocks_from epoch s first words)
arrays_uncompared epoch s first [] = tt
arrays_uncompared epoch s first (word ∷ words) =
    AllByRecursion-append HasPad (map (block_position epoch s first word) (range_with_len 0 (word_blocks s word))) (blocks_from epoch s (first + word_blocks s word) words)
    (AllByRecursion-each HasPad (block_position epoch s first word) (λ i. refl) (range_with_len 0 (word_blocks s word))) (arrays_uncompared epoch s (first + word_blocks s word) words)

entries_uncompared : (epoch : ℕ) (s : Setup) → AllByRecursion HasPad (entry_positions epoch s)
entries_uncompared epoch s =
    AllByRecursion-append HasPad (entries_from epoch s 0 (setup_words s)) (map (dummy_entry epoch s) (range_with_len 0 (dummy_entries s))) (cells_uncompared epoch s 0 (setup_words s))
    (AllByRecursion-each HasPad (dummy_entry epoch s) (λ i. refl) (range_with_len 0 (dummy_entries s)))

blocks_uncompared : (epoch : ℕ) (s : Setup) → AllByRecursion HasPad (block_positions epoch s)
blocks_uncompared epoch s =
    AllByRecursion-append HasPad (blocks_from epoch s 0 (setup_words s)) (map (dummy_block epoch s) (range_with_len 0 (dummy_blocks s))) (arrays_uncompared epoch s 0 (setup_words s))
    (AllByRecursion-each HasPad (dummy_block epoch s) (λ i. refl) (range_with_len 0 (dummy_blocks s)))

-- what holds of each position holds of its name
of_names : {X Y : Type 0} (g : X → Y) (P : Y → Type 0) (xs : List X) → AllByRecursion (λ x. P (g x)) xs → AllByRecursion P (map g xs)
of_names g P [] all = tt
of_names g P (x ∷ xs) all = (all.0, of_names g P xs all.1)

of_class : (epoch : ℕ) (class : Class) (ps : List Position) → AllByRecursion (IsOfClass epoch class) ps → AllByRecursion (λ p. class_of p.label ≡ class) ps
of_class epoch class [] all = tt
of_class epoch class (p ∷ ps) all = (all.0.1, of_class epoch class ps all.1)

-- Labels of one class, other names of another one, and pads.
module _ (t : Table) (labels others pads : List Name) (one two : Class) (are : AllByRecursion (λ n. class_of n ≡ one) labels) (are_others : AllByRecursion (λ n. class_of n ≡ two) others) (are_pads : AllByRecursion IsUncompared pads)
    (differ : one ≡ two → ⊥) where
  pub told_apart : AreDistinct t labels → AreDistinct t others → AreDistinct t (labels ++ (others ++ pads))
  told_apart first second =
      apart-append t labels (others ++ pads) first (apart-append t others pads second (apart-uncompared t pads are_pads) (λ x y here there class compared. uncompared y there (ap is_compared (sym class) ∙ compared)))
      (λ x y here there class compared.
      ⊎_elim (λ other. differ (sym (of_member (λ n. class_of n ≡ one) labels x are here) ∙ class ∙ of_member (λ n. class_of n ≡ two) others y are_others other))
      (λ pad. uncompared y pad (ap is_compared (sym class) ∙ compared)) (Contains-append_cases others pads y there))
    where
      uncompared : (y : Name) → Contains pads y → is_compared (class_of y) ≡ true → ⊥
      uncompared y there compared = true≢false (sym compared ∙ of_member IsUncompared pads y are_pads there)

module _ (f : KeyedFn) (laws : IsKeyedFn f) (keys : ℕ → List ℕ) (o : Offsets) (s : Setup) where
  abbrev t : Table
  t = table f s.shape keys

  told_by : (names : List Name) → AreDistinct t names → IsTold s.shape t names
  told_by names apart = record { values = λ n within. IsValue-table f laws s.shape keys n; apart = apart }

  -- A setup.

  abbrev cells : List Position
  cells = entry_positions o.epoch s

  abbrev blocks : List Position
  blocks = block_positions o.epoch s

  abbrev cell_labels : List Name
  cell_labels = map label_of cells

  abbrev block_tags : List Name
  block_tags = map label_of blocks

  abbrev setup_pads : List Name
  setup_pads = map pad_of cells ++ map pad_of blocks

  abbrev setup_names : List Name
  setup_names = cell_labels ++ (block_tags ++ setup_pads)

  setup_apart : collision_of_setup t o.epoch s ≡ None → AreDistinct t setup_names
  setup_apart none =
      let parts = both_none _ _ none in
      told_apart t cell_labels block_tags setup_pads ListLabels PlaceTags (of_names label_of (λ n. class_of n ≡ ListLabels) cells (of_class o.epoch ListLabels cells (entries_have_labels o.epoch s)))
      (of_names label_of (λ n. class_of n ≡ PlaceTags) blocks (of_class o.epoch PlaceTags blocks (blocks_have_tags o.epoch s)))
      (AllByRecursion-append IsUncompared (map pad_of cells) (map pad_of blocks) (of_names pad_of IsUncompared cells (entries_uncompared o.epoch s)) (of_names pad_of IsUncompared blocks (blocks_uncompared o.epoch s)))
      (λ e. cc) (apart-values t label_of cells (IsDistinct-first_clash (labels_in t cells) (map_none _ _ parts.0))) (apart-values t label_of blocks (IsDistinct-first_clash (labels_in t blocks) (map_none _ _ parts.1)))

  setup_named : (p : Position) → Contains (cells ++ blocks) p → IsNamed setup_names p
  setup_named p within =
      ⊎_elim (λ here. (
        Contains-append_left cell_labels (block_tags ++ setup_pads) p.label (Contains-map label_of cells p here),
        Contains-append_right cell_labels (block_tags ++ setup_pads) p.pad (Contains-append_right block_tags setup_pads p.pad (Contains-append_left (map pad_of cells) (map pad_of blocks) p.pad (Contains-map pad_of cells p here))),
      )) (λ there. (
        Contains-append_right cell_labels (block_tags ++ setup_pads) p.label (Contains-append_left block_tags setup_pads p.label (Contains-map label_of blocks p there)),
        Contains-append_right cell_labels (block_tags ++ setup_pads) p.pad (Contains-append_right block_tags setup_pads p.pad (Contains-append_right (map pad_of cells) (map pad_of blocks) p.pad (Contains-map pad_of blocks p there))),
      )) (Contains-append_cases cells blocks p within)

  pub setup_is : collision_of_setup t o.epoch s ≡ None → IsCollected s.documents → size_refusal s ≡ None → o.frame + frames_needed s < 2 ^ 32 → AllByRecursion InGrammar (frames_of_setup t o s)
  setup_is none collected size fits = setup_in_grammar t o s setup_names (told_by setup_names (setup_apart none)) setup_named collected size fits

  -- Updates.

  module _ (past : List Command) (q : ℕ) (number : IsNumber q) where
    module _ (d : Document) where
      abbrev new : List Position
      new = addition_positions o.epoch s past d

      abbrev number_of : List ℕ → Name
      number_of word = name o.epoch word Revocation d.id

      abbrev added : List ℕ → Position
      added word = record { label = name o.epoch word PlusLabel (counter s past word); pad = name o.epoch word PlusPad (counter s past word); clear = λ ranks. be64 d.id }

      abbrev new_labels : List Name
      new_labels = map label_of new

      abbrev numbers : List Name
      numbers = map number_of (listed_words s past d)

      abbrev new_pads : List Name
      new_pads = map pad_of new

      abbrev add_names : List Name
      add_names = new_labels ++ (numbers ++ new_pads)

      add_apart : collision_of t o.epoch s past (Add d) ≡ None → AreDistinct t add_names
      add_apart none =
          let parts = both_none _ _ none in
          let first = IsDistinct-first_clash (map (λ word. t (name o.epoch word PlusLabel (counter s past word))) (fresh_words s past d)) (map_none _ _ (map_none _ _ parts.0)) in
          told_apart t new_labels numbers new_pads PlusLabels Revocations (of_names label_of (λ n. class_of n ≡ PlusLabels) new (AllByRecursion-each (λ p. class_of p.label ≡ PlusLabels) added (λ word. refl) (fresh_words s past d)))
          (AllByRecursion-each (λ n. class_of n ≡ Revocations) number_of (λ word. refl) (listed_words s past d))
          (of_names pad_of IsUncompared new (AllByRecursion-each HasPad added (λ word. refl) (fresh_words s past d)))
          (λ e. cc) (apart-values t label_of new (subst (IsDistinct bytes_eq) (sym (map-map (λ (p : Position). t p.label) added (fresh_words s past d))) first))
          (apart-values t number_of (listed_words s past d) (IsDistinct-first_clash (map (λ word. t (number_of word)) (listed_words s past d)) (map_none _ _ (map_none _ _ parts.1))))

      add_named : (p : Position) → Contains new p → IsNamed add_names p
      add_named p within = (
        Contains-append_left new_labels (numbers ++ new_pads) p.label (Contains-map label_of new p within),
        Contains-append_right new_labels (numbers ++ new_pads) p.pad (Contains-append_right numbers new_pads p.pad (Contains-map pad_of new p within)),
      )

      add_sent : (word : List ℕ) → Contains (listed_words s past d) word → Contains add_names (number_of word)
      add_sent word within = Contains-append_right new_labels (numbers ++ new_pads) (number_of word) (Contains-append_left numbers new_pads (number_of word) (Contains-map number_of (listed_words s past d) word within))

      pub add_is : collision_of t o.epoch s past (Add d) ≡ None → IsDocument d → AllByRecursion InGrammar (frames_of t o.epoch s q past (Add d))
      add_is none valid = (add_in_grammar t o.epoch s add_names (told_by add_names (add_apart none)) past d valid add_named add_sent q number, tt)

    module _ (id : ℕ) where
      abbrev words : List (List ℕ)
      words = words_live (live s.documents past) id

      abbrev deleted : List ℕ → Name
      deleted word = name o.epoch word Revocation id

      all_pass : (ws : List (List ℕ)) → filter (λ word. true) ws ≡ ws
      all_pass [] = refl
      all_pass (w ∷ ws) = ap (λ rest. w ∷ rest) (all_pass ws)

      delete_apart : collision_of t o.epoch s past (Delete id) ≡ None → AreDistinct t (map deleted words)
      delete_apart none =
          apart-values t deleted words (IsDistinct-first_clash (map (λ word. t (deleted word)) words) (subst (λ ws. first_clash (map (λ word. t (deleted word)) ws) ≡ None) (all_pass words) (map_none _ _ (map_none _ _ none))))

      pub delete_is : collision_of t o.epoch s past (Delete id) ≡ None → AreApart (map (λ d. d.id) (live s.documents past)) → All IsDocument (live s.documents past) → AllByRecursion InGrammar (frames_of t o.epoch s q past (Delete id))
      delete_is none differ documents = (
        delete_in_grammar t o.epoch s (map deleted words) (told_by (map deleted words) (delete_apart none)) id words (IsDistinct-words_live (live s.documents past) id differ documents)
            (λ word within. Contains-map deleted words word within) q number (few_words_live (live s.documents past) id differ documents),
        tt,
      )
