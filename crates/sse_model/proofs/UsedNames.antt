-- The names that a history draws are used as their kinds have it, so different ones have different inputs.
use Rattle.std.proofs.Common.{◌≡◌, ℕ, ◌+◌, ◌-◌, ◌^◌, ◌<◌, ◌≤◌, Bool, true, false, not, ◌||◌, List, [], ◌∷◌, ◌++◌, length, map, filter, refl, arith, nat_lt, if◌then◌else◌, cond}
use Rattle.std.specs.Prelude.{All, sum_by}
use Rattle.std.specs.List.{AllByRecursion, list_all, list_any, range_with_len}
use Rattle.std.proofs.lemmas.Bool.{and_parts, ltb-true}
use Rattle.std.proofs.lemmas.List.Elements.{All-head, All-tail}
use Rattle.std.proofs.lemmas.List.Folds.{fold-map}
use Rattle.std.proofs.lemmas.List.Sums.{sum_by-cons}
use Rattle.two_level.specs.Plan.{plan, block_count}
use Rattle.client_registry.proofs.SizedLaws.{accepted_entries, accepted_padded}
use Rattle.client_registry.specs.Acceptance.{dummy_entries, dummy_blocks, padded_blocks}
use Rattle.client_registry.specs.Command.{Command, Add, Delete, Search}
use Rattle.client_registry.specs.Documents.{ids_with}
use Rattle.client_registry.specs.Live.{counter, is_listed, live}
use Rattle.client_registry.specs.Over.{over}
use Rattle.client_registry.specs.Run.{Run, Offsets}
use Rattle.client_registry.specs.Setup.{Setup, setup_words}
use Rattle.client_registry.specs.Sized.{IsHistory, IsSizedCommand, is_accepted}
use Rattle.sse_frames.specs.Frames.{be64}
use Rattle.sse_model.proofs.Counts.{AllByRecursion-append, AllByRecursion-each}
use Rattle.sse_model.proofs.Texts.{each_of_range}
use Rattle.sse_model.specs.Drawn.{drawn, drawn_by, names_of, searches_for, was_sent}
use Rattle.sse_model.specs.Inputs.{IsUsed}
use Rattle.sse_model.specs.Names.{name, PlusLabel, PlusPad, Revocation, Token}
use Rattle.sse_model.specs.Positions.{Position, addition_positions, block_position, block_positions, blocks_from, dummy_block, dummy_entry, entries_from, entry_positions, word_blocks}
use Rattle.sse_model.specs.Wire.{words_live}

-- both names of an encrypted text are used
abbrev AreUsed : Position → Type 0
AreUsed p = IsUsed p.label × IsUsed p.pad

both : (ps : List Position) → AllByRecursion AreUsed ps → AllByRecursion IsUsed (names_of ps)
both [] used = tt
both (p ∷ ps) used = (used.0.0, (used.0.1, both ps used.1))

-- ---- a setup

module _ (epoch : ℕ) (s : Setup) where
  cells : (words : List (List ℕ)) (first : ℕ) → AllByRecursion AreUsed (entries_from epoch s first words)
  cells [] first = tt
  cells (word ∷ words) first = ((refl, tt), cells words (first + word_blocks s word))

  blocks : (words : List (List ℕ)) (first : ℕ) → sum_by (word_blocks s) words < 2 ^ 64 → AllByRecursion AreUsed (blocks_from epoch s first words)
  blocks [] first few = tt
  blocks (word ∷ words) first few =
      let sum = sum_by-cons (word_blocks s) word words in
      AllByRecursion-append AreUsed (map (block_position epoch s first word) (range_with_len 0 (word_blocks s word))) (blocks_from epoch s (first + word_blocks s word) words)
      (each_of_range AreUsed (block_position epoch s first word) 0 (word_blocks s word) (λ i within. (omega (arith, within, few, sum), tt)))
      (blocks words (first + word_blocks s word) (omega (arith, few, sum)))

module _ (o : Offsets) (run : Run) (history : IsHistory run) where
  abbrev s : Setup
  s = run.setup

  few_blocks : sum_by (word_blocks s) (setup_words s) ≤ padded_blocks s
  few_blocks =
      let same = fold-map (λ a n. a + block_count (plan s.shape n)) (λ word. length (ids_with s.documents word)) 0 (setup_words s) in
      omega (arith, same)

  of_entries : AllByRecursion AreUsed (entry_positions o.epoch s)
  of_entries =
      let few = accepted_entries s history.setup history.collected in
      AllByRecursion-append AreUsed (entries_from o.epoch s 0 (setup_words s)) (map (dummy_entry o.epoch s) (range_with_len 0 (dummy_entries s)))
      (cells o.epoch s (setup_words s) 0)
      (each_of_range AreUsed (dummy_entry o.epoch s) 0 (dummy_entries s) (λ i within. ((refl, omega (arith, within, few)), (refl, omega (arith, within, few)))))

  of_blocks : AllByRecursion AreUsed (block_positions o.epoch s)
  of_blocks =
      let few = accepted_padded s history.setup in
      AllByRecursion-append AreUsed (blocks_from o.epoch s 0 (setup_words s)) (map (dummy_block o.epoch s) (range_with_len 0 (dummy_blocks s)))
      (blocks o.epoch s (setup_words s) 0 (omega (arith, few, few_blocks)))
      (each_of_range AreUsed (dummy_block o.epoch s) 0 (dummy_blocks s) (λ j within. ((refl, omega (arith, within, few)), (refl, omega (arith, within, few)))))

  -- ---- the commands after it

  module _ (past : List Command) where
    abbrev addition : (List ℕ → List ℕ) → List ℕ → Position
    addition clear word = record { label = name o.epoch word PlusLabel (counter s past word); pad = name o.epoch word PlusPad (counter s past word); clear = clear }

    abbrev has_counter : ℕ → List ℕ → Bool
    has_counter id word = is_listed s past word id || nat_lt (counter s past word) (2 ^ 32 - 1)

    abbrev is_new : ℕ → List ℕ → Bool
    is_new id word = not (is_listed s past word id)

    fresh : (id : ℕ) (clear : List ℕ → List ℕ) (words : List (List ℕ)) → list_all (has_counter id) words ≡ true → AllByRecursion AreUsed (map (addition clear) (filter (is_new id) words))
    fresh id clear [] all = tt
    fresh id clear (word ∷ words) all =
        let parts = and_parts (has_counter id word) (list_all (has_counter id) words) all in
        by (is_listed s past word id) parts.0 (fresh id clear words parts.1)
      where
        by : (b : Bool) → (b || nat_lt (counter s past word) (2 ^ 32 - 1)) ≡ true → AllByRecursion AreUsed (map (addition clear) (filter (is_new id) words))
            → AllByRecursion AreUsed (map (addition clear) (cond (not b) (word ∷ filter (is_new id) words) (filter (is_new id) words)))
        by true one rest = rest
        by false one rest = let small = ltb-true (counter s past word) (2 ^ 32 - 1) one in ((omega (arith, small), tt), rest)

    by_command : (c : Command) → IsSizedCommand c → is_accepted s past c ≡ true → AllByRecursion IsUsed (drawn_by o.epoch s past c)
    by_command (Add d) sized accepted = both (addition_positions o.epoch s past d) (fresh d.id (λ ranks. be64 d.id) d.words (and_parts _ _ accepted).1)
    by_command (Delete id) sized accepted =
        AllByRecursion-each IsUsed (λ word. name o.epoch word Revocation id) (λ word. sized.1) (filter (λ word. not (was_sent s past word id)) (words_live (live s.documents past) id))
    by_command (Search word) sized accepted = by (list_any (searches_for word) past)
      where
        by : (b : Bool) → AllByRecursion IsUsed (if b then [] else name o.epoch word Token 0 ∷ [])
        by true = tt
        by false = (refl, tt)

  by_later : (past later : List Command) → All IsSizedCommand later → list_all (λ accepted. accepted) (over (is_accepted s) past later) ≡ true → AllByRecursion (AllByRecursion IsUsed) (over (drawn_by o.epoch s) past later)
  by_later past [] sized accepted = tt
  by_later past (c ∷ cs) sized accepted =
      let parts = and_parts (is_accepted s past c) (list_all (λ a. a) (over (is_accepted s) (past ++ c ∷ []) cs)) accepted in
      (by_command past c (All-head IsSizedCommand c cs sized) parts.0, by_later (past ++ c ∷ []) cs (All-tail IsSizedCommand c cs sized) parts.1)

  -- Promise P168, also here
  -- every name that a history draws is used as its kind has it, so no two different ones have one input
  pub drawn_are_used : AllByRecursion (AllByRecursion IsUsed) (drawn o run)
  drawn_are_used = (
    AllByRecursion-append IsUsed (names_of (entry_positions o.epoch s)) (names_of (block_positions o.epoch s)) (both (entry_positions o.epoch s) of_entries) (both (block_positions o.epoch s) of_blocks),
    by_later [] run.later history.each history.accepted,
  )
