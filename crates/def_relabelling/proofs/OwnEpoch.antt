-- Each name that a run draws, and each that is looked up for it, is of the run's epoch.
use Rattle.std.proofs.Common.{◌≡◌, ℕ, ◌+◌, Bool, true, false, not, List, [], ◌∷◌, ◌++◌, map, filter, refl, sym, subst}
use Rattle.std.specs.Prelude.{All, Contains, flat_map, if◌then◌else◌}
use Rattle.std.specs.List.{list_any, range_with_len}
use Rattle.std.proofs.lemmas.List.Concat.{flat_map-append}
use Rattle.std.proofs.lemmas.List.Elements.{All-nil, All-cons, All-append, All-contains}
use Rattle.client_registry.specs.Acceptance.{dummy_entries, dummy_blocks}
use Rattle.client_registry.specs.Command.{Command, Add, Delete, Search}
use Rattle.client_registry.specs.Live.{live, counter, added_list}
use Rattle.client_registry.specs.Over.{over}
use Rattle.client_registry.specs.Run.{Run, Offsets}
use Rattle.client_registry.specs.Setup.{Setup, setup_words, setup_list}
use Rattle.def_comparison.specs.UsedNames.{all_names}
use Rattle.sse_model.proofs.Apart.{All-flat_map, All-two}
use Rattle.sse_model.specs.Drawn.{names_of, was_sent, searches_for, drawn_by, drawn, probed_by, probed}
use Rattle.sse_model.specs.Names.{Name, name, Token, ListLabel, PlusLabel, Revocation}
use Rattle.sse_model.specs.Positions.{Position, word_blocks, block_position, entries_from, blocks_from, dummy_entry, dummy_block, entry_positions, block_positions, fresh_words}
use Rattle.sse_model.specs.Wire.{words_live}

module _ (e : ℕ) where
  abbrev pub IsOwn : Name → Type 0
  IsOwn n = n.epoch ≡ e

  all_mapped : {X : Type 0} (f : X → Name) (xs : List X) → ((x : X) → IsOwn (f x)) → All IsOwn (map f xs)
  all_mapped f [] own = All-nil IsOwn
  all_mapped f (x ∷ xs) own = All-cons IsOwn (f x) (map f xs) (own x) (all_mapped f xs own)

  all_positions : {X : Type 0} (f : X → Position) (xs : List X) → ((x : X) → IsOwn (f x).label) → ((x : X) → IsOwn (f x).pad) → All IsOwn (names_of (map f xs))
  all_positions f [] labels pads = All-nil IsOwn
  all_positions f (x ∷ xs) labels pads =
      All-append IsOwn ((f x).label ∷ (f x).pad ∷ []) (names_of (map f xs)) (All-two IsOwn (f x).label (f x).pad (labels x) (pads x)) (all_positions f xs labels pads)

  both : (ps qs : List Position) → All IsOwn (names_of ps) → All IsOwn (names_of qs) → All IsOwn (names_of (ps ++ qs))
  both ps qs one other =
      subst (All IsOwn) (sym (flat_map-append (λ p. p.label ∷ p.pad ∷ []) ps qs)) (All-append IsOwn (names_of ps) (names_of qs) one other)

  module _ (s : Setup) where
    entries_own : (first : ℕ) (words : List (List ℕ)) → All IsOwn (names_of (entries_from e s first words))
    entries_own first [] = All-nil IsOwn
    entries_own first (w ∷ ws) =
        All-append IsOwn (_ ∷ _ ∷ []) (names_of (entries_from e s (first + word_blocks s w) ws)) (All-two IsOwn _ _ refl refl) (entries_own (first + word_blocks s w) ws)

    blocks_own : (first : ℕ) (words : List (List ℕ)) → All IsOwn (names_of (blocks_from e s first words))
    blocks_own first [] = All-nil IsOwn
    blocks_own first (w ∷ ws) =
        both (map (block_position e s first w) (range_with_len 0 (word_blocks s w))) (blocks_from e s (first + word_blocks s w) ws)
        (all_positions (block_position e s first w) (range_with_len 0 (word_blocks s w)) (λ i. refl) (λ i. refl))
        (blocks_own (first + word_blocks s w) ws)

    pub setup_own : All IsOwn (names_of (entry_positions e s) ++ names_of (block_positions e s))
    setup_own =
        All-append IsOwn (names_of (entry_positions e s)) (names_of (block_positions e s))
        (both (entries_from e s 0 (setup_words s)) (map (dummy_entry e s) (range_with_len 0 (dummy_entries s)))
        (entries_own 0 (setup_words s)) (all_positions (dummy_entry e s) (range_with_len 0 (dummy_entries s)) (λ i. refl) (λ i. refl)))
        (both (blocks_from e s 0 (setup_words s)) (map (dummy_block e s) (range_with_len 0 (dummy_blocks s)))
        (blocks_own 0 (setup_words s)) (all_positions (dummy_block e s) (range_with_len 0 (dummy_blocks s)) (λ i. refl) (λ i. refl)))

    command_own : (past : List Command) (c : Command) → All IsOwn (drawn_by e s past c)
    command_own past (Add d) = all_positions _ (fresh_words s past d) (λ word. refl) (λ word. refl)
    command_own past (Delete id) =
        all_mapped (λ word. name e word Revocation id) (filter (λ word. not (was_sent s past word id)) (words_live (live s.documents past) id)) (λ word. refl)
    command_own past (Search word) = by (list_any (searches_for word) past)
      where
        by : (b : Bool) → All IsOwn (if b then [] else name e word Token 0 ∷ [])
        by true = All-nil IsOwn
        by false = All-cons IsOwn (name e word Token 0) [] refl (All-nil IsOwn)

    commands_own : (past later : List Command) → All (λ ns. All IsOwn ns) (over (drawn_by e s) past later)
    commands_own past [] = All-nil (λ ns. All IsOwn ns)
    commands_own past (c ∷ later) =
        All-cons (λ ns. All IsOwn ns) (drawn_by e s past c) (over (drawn_by e s) (past ++ c ∷ []) later) (command_own past c) (commands_own (past ++ c ∷ []) later)

    probed_own : (past : List Command) (c : Command) → All IsOwn (probed_by e s past c)
    probed_own past (Add d) = All-nil IsOwn
    probed_own past (Delete id) = All-nil IsOwn
    probed_own past (Search word) =
        All-cons IsOwn (name e word ListLabel 0) _ refl
        (All-append IsOwn (map (λ c. name e word PlusLabel c) (range_with_len 0 (counter s past word + 1))) (map (λ id. name e word Revocation id) (setup_list s word ++ added_list s past word))
        (all_mapped (λ c. name e word PlusLabel c) (range_with_len 0 (counter s past word + 1)) (λ c. refl))
        (all_mapped (λ id. name e word Revocation id) (setup_list s word ++ added_list s past word) (λ id. refl)))

    all_probed : (past later : List Command) → All (λ ns. All IsOwn ns) (over (probed_by e s) past later)
    all_probed past [] = All-nil (λ ns. All IsOwn ns)
    all_probed past (c ∷ later) =
        All-cons (λ ns. All IsOwn ns) (probed_by e s past c) (over (probed_by e s) (past ++ c ∷ []) later) (probed_own past c) (all_probed (past ++ c ∷ []) later)

-- what a run draws
pub drawn_own : (o : Offsets) (run : Run) → All (IsOwn o.epoch) (flat_map (λ ns. ns) (drawn o run))
drawn_own o run =
    All-append (IsOwn o.epoch) (names_of (entry_positions o.epoch run.setup) ++ names_of (block_positions o.epoch run.setup)) (flat_map (λ ns. ns) (over (drawn_by o.epoch run.setup) [] run.later))
    (setup_own o.epoch run.setup)
    (All-flat_map (IsOwn o.epoch) (λ ns. ns) (over (drawn_by o.epoch run.setup) [] run.later) (commands_own o.epoch run.setup [] run.later))

-- what is looked up for it
pub probed_are_own : (o : Offsets) (run : Run) → All (IsOwn o.epoch) (flat_map (λ ns. ns) (probed o run))
probed_are_own o run = All-flat_map (IsOwn o.epoch) (λ ns. ns) (over (probed_by o.epoch run.setup) [] run.later) (all_probed o.epoch run.setup [] run.later)

-- each of its names
pub own_names : (o : Offsets) (run : Run) (n : Name) → Contains (all_names o run) n → n.epoch ≡ o.epoch
own_names o run n within =
    All-contains (IsOwn o.epoch) (flat_map (λ ns. ns) (drawn o run) ++ flat_map (λ ns. ns) (probed o run)) n
    (All-append (IsOwn o.epoch) (flat_map (λ ns. ns) (drawn o run)) (flat_map (λ ns. ns) (probed o run)) (drawn_own o run) (probed_are_own o run))
    (subst (λ ns. Contains ns n) (flat_map-append (λ ns. ns) (drawn o run) (probed o run)) within)
