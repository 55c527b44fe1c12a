-- Two setups of equal leakage, and two words with the same list and the same home: what the one setup draws for the one word, the other
-- draws at the same places for the other word, over the same plaintexts.
use Rattle.std.proofs.Common.{◌≡◌, ℕ, zero, suc, ◌+◌, List, [], ◌∷◌, ◌++◌, length, map, take, drop, refl, sym, ap, ◌∙◌, subst, arith, Some, None}
use Rattle.std.specs.Prelude.{Option, bytes_eq, option_map, position, sum_by}
use Rattle.std.specs.List.{AllByRecursion, range_with_len}
use Rattle.std.proofs.lemmas.List.{length-append}
use Rattle.two_level.specs.Laid.{laid}
use Rattle.two_level.specs.Plan.{plan, block_count}
use Rattle.client_registry.specs.Setup.{Setup, setup_words, setup_list}
use Rattle.def_leakage.proofs.Places.{none_is_some}
use Rattle.def_leakage.specs.DrawnValues.{Drawing, ForEntry, ForBlock}
use Rattle.def_leakage.specs.CommandLeaks.{home}
use Rattle.def_leakage.specs.Relabelled.{Use, uses_in}
use Rattle.sse_model.proofs.Counts.{AllByRecursion-append}
use Rattle.sse_model.specs.Names.{name, no_word}
use Rattle.sse_model.specs.Positions.{Position, word_blocks, laid_at, cell_text, block_text, entry_position, block_position, entry_positions, block_positions}
use Rattle.def_relabelling.proofs.HomePositions.{IsNotOf, HomeAt, home_at, no_home}
use Rattle.def_relabelling.proofs.Pairs.{heads, fewer, paired-length, paired-append}
use Rattle.def_relabelling.proofs.SameDrawings.{AreAlikeSetups}
use Rattle.def_relabelling.proofs.FirstPlaces.{some_inside}
use Rattle.def_relabelling.specs.Paired.{Paired}
use Rattle.sse_simulator.specs.Leaks.{Home}

-- where the one use is of the one word, the other is of the other word, and the same but for the word; its plaintext is the same
abbrev pub IsRenamed : (w w2 : List ℕ) → Use → Use → Type 0
IsRenamed w w2 a b = a.name.word ≡ w → (b.name ≡ name a.name.epoch w2 a.name.kind a.name.number) × (a.text ≡ b.text)

abbrev pub AreRenamed : (ranks : List ℕ) → (w w2 : List ℕ) → Drawing → Drawing → Type 0
AreRenamed ranks w w2 d d2 = Paired (IsRenamed w w2) (uses_in ranks d) (uses_in ranks d2)

-- lists of one length, where it is enough to look at the first
paired-first : {A B : Type 0} (P : A → Type 0) (R : A → B → Type 0) (xs : List A) (ys : List B) → AllByRecursion P xs → length xs ≡ length ys → ((x : A) (y : B) → P x → R x y) → Paired R xs ys
paired-first P R [] [] all even each = tt
paired-first P R [] (y ∷ ys) all even each = absurd (omega (arith, even))
paired-first P R (x ∷ xs) [] all even each = absurd (omega (arith, even))
paired-first P R (x ∷ xs) (y ∷ ys) all even each = (each x y all.0, paired-first P R xs ys all.1 (fewer (length xs) (length ys) even) each)

pub paired-same : {A B C : Type 0} (R : B → C → Type 0) (f : A → B) (g : A → C) (xs : List A) → ((x : A) → R (f x) (g x)) → Paired R (map f xs) (map g xs)
paired-same R f g [] each = tt
paired-same R f g (x ∷ xs) each = (each x, paired-same R f g xs each)

module _ (epoch : ℕ) (s s2 : Setup) (alike : AreAlikeSetups epoch s s2) (w w2 : List ℕ) (some : no_word ≡ w → ⊥) (some2 : no_word ≡ w2 → ⊥) (homes : home s w ≡ home s2 w2) (lists : setup_list s w ≡ setup_list s2 w2) (ranks : List ℕ) where
  abbrev OfEntries : Position → Position → Type 0
  OfEntries p q = AreRenamed ranks w w2 (ForEntry p) (ForEntry q)

  abbrev OfBlocks : Position → Position → Type 0
  OfBlocks p q = AreRenamed ranks w w2 (ForBlock p) (ForBlock q)

  others : (p q : Position) → IsNotOf w p → OfEntries p q
  others p q differ = ((λ same. absurd (differ.0 same)), ((λ same. absurd (differ.1 same)), tt))

  same_blocks : word_blocks s w ≡ word_blocks s2 w2
  same_blocks = λ i. block_count (plan (alike.shape i) (length (lists i)))

  module _ (first first2 : ℕ) (ranges : range_with_len first (word_blocks s w) ≡ range_with_len first2 (word_blocks s2 w2)) where
    -- where the word has blocks they begin at the same position
    same_first : (n n2 : ℕ) → n ≡ n2 → range_with_len first n ≡ range_with_len first2 n2 → take n (drop first ranks) ≡ take n2 (drop first2 ranks)
    same_first zero zero e range = refl
    same_first zero (suc n2) e range = absurd (omega (arith, e))
    same_first (suc n) zero e range = absurd (omega (arith, e))
    same_first (suc n) (suc n2) e range = λ i. take (e i) (drop (heads first first2 (range_with_len (first + 1) n) (range_with_len (first2 + 1) n2) range i) ranks)

    same_laid : laid_at s first w ranks ≡ laid_at s2 first2 w2 ranks
    same_laid = λ i. laid (alike.shape i) (same_first (word_blocks s w) (word_blocks s2 w2) same_blocks ranges i) (lists i)

    own_entry : OfEntries (entry_position epoch s first w) (entry_position epoch s2 first2 w2)
    own_entry = ((λ same. (refl, refl)), ((λ same. (refl, ap (λ l. Some (cell_text l)) same_laid)), tt))

    own_blocks : Paired OfBlocks (map (block_position epoch s first w) (range_with_len 0 (word_blocks s w))) (map (block_position epoch s2 first2 w2) (range_with_len 0 (word_blocks s2 w2)))
    own_blocks =
        subst (λ n. Paired OfBlocks (map (block_position epoch s first w) (range_with_len 0 (word_blocks s w))) (map (block_position epoch s2 first2 w2) (range_with_len 0 n))) same_blocks
        (paired-same OfBlocks (block_position epoch s first w) (block_position epoch s2 first2 w2) (range_with_len 0 (word_blocks s w))
        (λ k. ((λ same. (refl, refl)), ((λ same. (refl, ap (λ l. Some (block_text k l)) same_laid)), tt))))

    module _ (i : ℕ) (h : HomeAt epoch s w some i first) (h2 : HomeAt epoch s2 w2 some2 i first2) where
      entries_at : Paired OfEntries (entry_positions epoch s) (entry_positions epoch s2)
      entries_at =
          subst (λ ps. Paired OfEntries ps (entry_positions epoch s2)) (sym h.entries)
          (subst (λ qs. Paired OfEntries (h.entries_before ++ entry_position epoch s first w ∷ h.entries_behind) qs) (sym h2.entries)
          (paired-append OfEntries h.entries_before (entry_position epoch s first w ∷ h.entries_behind) h2.entries_before (entry_position epoch s2 first2 w2 ∷ h2.entries_behind)
          (paired-first (IsNotOf w) OfEntries h.entries_before h2.entries_before h.entries_before_differ (h.entry_number ∙ sym h2.entry_number) others)
          (own_entry, paired-first (IsNotOf w) OfEntries h.entries_behind h2.entries_behind h.entries_behind_differ even others)))
        where
          even : length h.entries_behind ≡ length h2.entries_behind
          even =
              let total = alike.entries in
              let x = ap length h.entries ∙ length-append h.entries_before (entry_position epoch s first w ∷ h.entries_behind) in
              let y = ap length h2.entries ∙ length-append h2.entries_before (entry_position epoch s2 first2 w2 ∷ h2.entries_behind) in
              let n = h.entry_number in
              let n2 = h2.entry_number in
              omega (arith, total, x, y, n, n2)

      blocks_at : first ≡ first2 → Paired OfBlocks (block_positions epoch s) (block_positions epoch s2)
      blocks_at at =
          subst (λ ps. Paired OfBlocks ps (block_positions epoch s2)) (sym h.blocks)
          (subst (λ qs. Paired OfBlocks (h.blocks_before ++ (own ++ h.blocks_behind)) qs) (sym h2.blocks)
          (paired-append OfBlocks h.blocks_before (own ++ h.blocks_behind) h2.blocks_before (own2 ++ h2.blocks_behind)
          (paired-first (IsNotOf w) OfBlocks h.blocks_before h2.blocks_before h.blocks_before_differ (h.block_number ∙ at ∙ sym h2.block_number) others)
          (paired-append OfBlocks own h.blocks_behind own2 h2.blocks_behind own_blocks
          (paired-first (IsNotOf w) OfBlocks h.blocks_behind h2.blocks_behind h.blocks_behind_differ even others))))
        where
          own : List Position
          own = map (block_position epoch s first w) (range_with_len 0 (word_blocks s w))

          own2 : List Position
          own2 = map (block_position epoch s2 first2 w2) (range_with_len 0 (word_blocks s2 w2))

          even : length h.blocks_behind ≡ length h2.blocks_behind
          even =
              let total = alike.blocks in
              let x = ap length h.blocks ∙ length-append h.blocks_before (own ++ h.blocks_behind) in
              let y = ap length h2.blocks ∙ length-append h2.blocks_before (own2 ++ h2.blocks_behind) in
              let x2 = length-append own h.blocks_behind in
              let y2 = length-append own2 h2.blocks_behind in
              let n = h.block_number in
              let n2 = h2.block_number in
              let mid = length-own in
              omega (arith, total, x, y, x2, y2, n, n2, at, mid)
            where
              length-own : length own ≡ length own2
              length-own = paired-length OfBlocks own own2 own_blocks

      -- a word without blocks has none anywhere
      no_blocks : word_blocks s w ≡ 0 → AllByRecursion (IsNotOf w) (block_positions epoch s)
      no_blocks none =
          subst (AllByRecursion (IsNotOf w)) (sym (h.blocks ∙ ap (λ n. h.blocks_before ++ (map (block_position epoch s first w) (range_with_len 0 n) ++ h.blocks_behind)) none))
          (AllByRecursion-append (IsNotOf w) h.blocks_before h.blocks_behind h.blocks_before_differ h.blocks_behind_differ)

      blocks_renamed_at : Paired OfBlocks (block_positions epoch s) (block_positions epoch s2)
      blocks_renamed_at = by (word_blocks s w) (word_blocks s2 w2) refl ranges same_blocks
        where
          by : (n n2 : ℕ) → word_blocks s w ≡ n → range_with_len first n ≡ range_with_len first2 n2 → n ≡ n2 → Paired OfBlocks (block_positions epoch s) (block_positions epoch s2)
          by zero n2 is range e = paired-first (IsNotOf w) OfBlocks (block_positions epoch s) (block_positions epoch s2) (no_blocks is) alike.blocks others
          by (suc n) zero is range e = absurd (omega (arith, e))
          by (suc n) (suc n2) is range e = blocks_at (heads first first2 (range_with_len (first + 1) n) (range_with_len (first2 + 1) n2) range)

  abbrev blocks_home : Setup → List ℕ → ℕ → List ℕ
  blocks_home s w i = range_with_len (sum_by (word_blocks s) (take i (setup_words s))) (word_blocks s w)

  abbrev home_from : Setup → List ℕ → ℕ → Home
  home_from s w i = record { entry = i; blocks = blocks_home s w i }

  pub setup_renamed : Paired OfEntries (entry_positions epoch s) (entry_positions epoch s2) × Paired OfBlocks (block_positions epoch s) (block_positions epoch s2)
  setup_renamed = by (position (bytes_eq w) (setup_words s)) (position (bytes_eq w2) (setup_words s2)) refl refl homes
    where
      by : (m m2 : Option ℕ) → position (bytes_eq w) (setup_words s) ≡ m → position (bytes_eq w2) (setup_words s2) ≡ m2
          → option_map (home_from s w) m ≡ option_map (home_from s2 w2) m2
          → Paired OfEntries (entry_positions epoch s) (entry_positions epoch s2) × Paired OfBlocks (block_positions epoch s) (block_positions epoch s2)
      by None m2 is is2 same =
          let none = no_home epoch s w some is in (
            paired-first (IsNotOf w) OfEntries (entry_positions epoch s) (entry_positions epoch s2) none.0 alike.entries others,
            paired-first (IsNotOf w) OfBlocks (block_positions epoch s) (block_positions epoch s2) none.1 alike.blocks others,
          )
      by (Some i) None is is2 same = none_is_some (home_from s w i) (sym same)
      by (Some i) (Some i2) is is2 same =
          let one : home_from s w i ≡ home_from s2 w2 i2 = some_inside (home_from s w i) (home_from s2 w2 i2) same in
          let at : i ≡ i2 = ap (λ (x : Home). x.entry) one in
          let ranges : blocks_home s w i ≡ blocks_home s2 w2 i = ap (λ (x : Home). x.blocks) one ∙ ap (blocks_home s2 w2) (sym at) in
          let first = sum_by (word_blocks s) (take i (setup_words s)) in
          let first2 = sum_by (word_blocks s2) (take i (setup_words s2)) in
          let h = home_at epoch s w some i is in
          let h2 = home_at epoch s2 w2 some2 i (is2 ∙ ap (λ n. Some n) (sym at)) in
          (entries_at first first2 ranges i h h2, blocks_renamed_at first first2 ranges i h h2)
