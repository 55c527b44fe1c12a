-- Where the setup holds a word: its entry among the entries, its blocks among the blocks, and no other text of the word.
use Rattle.std.proofs.Common.{◌≡◌, ℕ, suc, ◌+◌, Bool, true, false, cond, List, [], ◌∷◌, ◌++◌, length, map, take, refl, sym, ap, ◌∙◌, subst, arith, append_assoc, zero-add, Some, None}
use Rattle.std.specs.Prelude.{Option, bytes_eq, option_map, position, sum_by}
use Rattle.std.specs.List.{AllByRecursion, IsDistinct, range_with_len}
use Rattle.std.specs.Cmp.Lexicographic.{same_text}
use Rattle.std.proofs.lemmas.Bool.{true≢false}
use Rattle.std.proofs.lemmas.List.{length-append}
use Rattle.std.proofs.lemmas.List.FromFn.{length-map-range_with_len}
use Rattle.std.proofs.lemmas.List.Sums.{sum_by-cons}
use Rattle.std.proofs.lemmas.Slice.Eq.{bytes_eq-Decides}
use Rattle.client_registry.proofs.DistinctLaws.{IsDistinct-first_seen}
use Rattle.client_registry.proofs.Positions.{position-cons}
use Rattle.client_registry.specs.Acceptance.{dummy_entries, dummy_blocks}
use Rattle.client_registry.specs.Documents.{all_words}
use Rattle.client_registry.specs.Setup.{Setup, setup_words}
use Rattle.def_leakage.proofs.Places.{none_is_some}
use Rattle.sse_model.proofs.Counts.{AllByRecursion-append, AllByRecursion-each}
use Rattle.sse_model.specs.Names.{no_word}
use Rattle.sse_model.specs.Positions.{Position, word_blocks, entry_position, block_position, dummy_entry, dummy_block, entries_from, blocks_from, entry_positions, block_positions}
use Rattle.def_relabelling.proofs.FirstPlaces.{some_inside, take-middle}

-- neither name of the text is of the word
abbrev pub IsNotOf : List ℕ → Position → Type 0
IsNotOf w p = (p.label.word ≡ w → ⊥) × (p.pad.word ≡ w → ⊥)

-- Words.

-- the word at a place, with those before it and after it, which differ from it
record Split (words : List (List ℕ)) (w : List ℕ) (i : ℕ) : Type 0 where
  pub left : List (List ℕ)
  pub right : List (List ℕ)
  pub parts : words ≡ left ++ w ∷ right
  pub size : length left ≡ i
  pub left_differ : AllByRecursion (λ v. bytes_eq w v ≡ false) left
  pub right_differ : AllByRecursion (λ v. bytes_eq w v ≡ false) right

split : (words : List (List ℕ)) → IsDistinct bytes_eq words → (w : List ℕ) (i : ℕ) → position (bytes_eq w) words ≡ Some i → Split words w i
unfolding IsDistinct
split [] differ w i e = none_is_some i e
split (v ∷ vs) differ w i e = by (split vs differ.1 w) (bytes_eq w v) refl (sym (position-cons (bytes_eq w) v vs) ∙ e)
  where
    behind : (m : Option ℕ) → position (bytes_eq w) vs ≡ m → ((j : ℕ) → position (bytes_eq w) vs ≡ Some j → Split vs w j) → bytes_eq w v ≡ false → option_map (λ n. suc n) m ≡ Some i → Split (v ∷ vs) w i
    behind None is later other e = none_is_some i e
    behind (Some j) is later other e =
        let s = later j is in
        record {
          left = v ∷ s.left;
          right = s.right;
          parts = ap (λ rest. v ∷ rest) s.parts;
          size = ap (λ (n : ℕ). suc n) s.size ∙ some_inside (suc j) i e;
          left_differ = (other, s.left_differ);
          right_differ = s.right_differ;
        }

    by : ((j : ℕ) → position (bytes_eq w) vs ≡ Some j → Split vs w j) → (b : Bool) → bytes_eq w v ≡ b → cond b (Some 0) (option_map (λ n. suc n) (position (bytes_eq w) vs)) ≡ Some i → Split (v ∷ vs) w i
    by later true is e =
        let own : v ≡ w = sym (same_text w v (sym is)) in
        record {
          left = [];
          right = vs;
          parts = ap (λ x. x ∷ vs) own;
          size = some_inside 0 i e;
          left_differ = tt;
          right_differ = subst (λ x. AllByRecursion (λ y. bytes_eq x y ≡ false) vs) own differ.0;
        }
    by later false is e = behind (position (bytes_eq w) vs) refl later is e

none_differ : (w : List ℕ) (words : List (List ℕ)) → position (bytes_eq w) words ≡ None → AllByRecursion (λ v. bytes_eq w v ≡ false) words
none_differ w [] e = tt
none_differ w (v ∷ vs) e = by (none_differ w vs) (bytes_eq w v) refl (sym (position-cons (bytes_eq w) v vs) ∙ e)
  where
    rest : (m : Option ℕ) → option_map (λ n. suc n) m ≡ None → m ≡ None
    rest None e = refl
    rest (Some j) e = none_is_some (suc j) (sym e)

    by : (position (bytes_eq w) vs ≡ None → AllByRecursion (λ v. bytes_eq w v ≡ false) vs) → (b : Bool) → bytes_eq w v ≡ b → cond b (Some 0) (option_map (λ n. suc n) (position (bytes_eq w) vs)) ≡ None
        → (bytes_eq w v ≡ false) × AllByRecursion (λ v. bytes_eq w v ≡ false) vs
    by later true is e = none_is_some 0 (sym e)
    by later false is e = (is, later (rest (position (bytes_eq w) vs) e))

-- Positions.

module _ (epoch : ℕ) (s : Setup) (w : List ℕ) (some : no_word ≡ w → ⊥) where
  is_other : (v : List ℕ) → bytes_eq w v ≡ false → v ≡ w → ⊥
  is_other v e same = true≢false (sym ((bytes_eq-Decides w v).1 (sym same)) ∙ e)

  entries-append : (first : ℕ) (xs ys : List (List ℕ)) → entries_from epoch s first (xs ++ ys) ≡ entries_from epoch s first xs ++ entries_from epoch s (first + sum_by (word_blocks s) xs) ys
  entries-append first [] ys = ap (λ n. entries_from epoch s n ys) (let e : first ≡ first + 0 = omega arith in e)
  entries-append first (x ∷ xs) ys =
      ap (λ rest. entry_position epoch s first x ∷ rest)
      (entries-append (first + word_blocks s x) xs ys
      ∙ ap (λ n. entries_from epoch s (first + word_blocks s x) xs ++ entries_from epoch s n ys)
      (let e : first + word_blocks s x + sum_by (word_blocks s) xs ≡ first + sum_by (word_blocks s) (x ∷ xs) = (let sum = sum_by-cons (word_blocks s) x xs in omega (arith, sum)) in e))

  blocks-append : (first : ℕ) (xs ys : List (List ℕ)) → blocks_from epoch s first (xs ++ ys) ≡ blocks_from epoch s first xs ++ blocks_from epoch s (first + sum_by (word_blocks s) xs) ys
  blocks-append first [] ys = ap (λ n. blocks_from epoch s n ys) (let e : first ≡ first + 0 = omega arith in e)
  blocks-append first (x ∷ xs) ys =
      let own = map (block_position epoch s first x) (range_with_len 0 (word_blocks s x)) in
      ap (λ rest. own ++ rest)
      (blocks-append (first + word_blocks s x) xs ys
      ∙ ap (λ n. blocks_from epoch s (first + word_blocks s x) xs ++ blocks_from epoch s n ys)
      (let e : first + word_blocks s x + sum_by (word_blocks s) xs ≡ first + sum_by (word_blocks s) (x ∷ xs) = (let sum = sum_by-cons (word_blocks s) x xs in omega (arith, sum)) in e))
      ∙ sym (append_assoc own (blocks_from epoch s (first + word_blocks s x) xs) (blocks_from epoch s (first + sum_by (word_blocks s) (x ∷ xs)) ys))

  entries_not_of : (first : ℕ) (words : List (List ℕ)) → AllByRecursion (λ v. bytes_eq w v ≡ false) words → AllByRecursion (IsNotOf w) (entries_from epoch s first words)
  entries_not_of first [] differ = tt
  entries_not_of first (v ∷ vs) differ = ((is_other v differ.0, is_other v differ.0), entries_not_of (first + word_blocks s v) vs differ.1)

  each_not_of : (first : ℕ) (v : List ℕ) → bytes_eq w v ≡ false → (numbers : List ℕ) → AllByRecursion (IsNotOf w) (map (block_position epoch s first v) numbers)
  each_not_of first v e [] = tt
  each_not_of first v e (n ∷ ns) = ((is_other v e, is_other v e), each_not_of first v e ns)

  blocks_not_of : (first : ℕ) (words : List (List ℕ)) → AllByRecursion (λ v. bytes_eq w v ≡ false) words → AllByRecursion (IsNotOf w) (blocks_from epoch s first words)
  blocks_not_of first [] differ = tt
  blocks_not_of first (v ∷ vs) differ =
      AllByRecursion-append (IsNotOf w) (map (block_position epoch s first v) (range_with_len 0 (word_blocks s v))) (blocks_from epoch s (first + word_blocks s v) vs)
      (each_not_of first v differ.0 (range_with_len 0 (word_blocks s v))) (blocks_not_of (first + word_blocks s v) vs differ.1)

  -- no dummy is of a word
  dummy_entries_not_of : AllByRecursion (IsNotOf w) (map (dummy_entry epoch s) (range_with_len 0 (dummy_entries s)))
  dummy_entries_not_of = AllByRecursion-each (IsNotOf w) (dummy_entry epoch s) (λ i. (some, some)) (range_with_len 0 (dummy_entries s))

  dummy_blocks_not_of : AllByRecursion (IsNotOf w) (map (dummy_block epoch s) (range_with_len 0 (dummy_blocks s)))
  dummy_blocks_not_of = AllByRecursion-each (IsNotOf w) (dummy_block epoch s) (λ j. (some, some)) (range_with_len 0 (dummy_blocks s))

  length-entries : (first : ℕ) (words : List (List ℕ)) → length (entries_from epoch s first words) ≡ length words
  length-entries first [] = refl
  length-entries first (v ∷ vs) = ap (λ (n : ℕ). suc n) (length-entries (first + word_blocks s v) vs)

  length-blocks : (first : ℕ) (words : List (List ℕ)) → length (blocks_from epoch s first words) ≡ sum_by (word_blocks s) words
  length-blocks first [] = refl
  length-blocks first (v ∷ vs) =
      length-append (map (block_position epoch s first v) (range_with_len 0 (word_blocks s v))) (blocks_from epoch s (first + word_blocks s v) vs)
      ∙ (λ i. length-map-range_with_len (block_position epoch s first v) 0 (word_blocks s v) i + length-blocks (first + word_blocks s v) vs i)
      ∙ sym (sum_by-cons (word_blocks s) v vs)

  -- the entry and the blocks of a word that is the setup's word of number i, its blocks being those from this position on
  pub record HomeAt (i first : ℕ) : Type 0 where
    pub entries_before : List Position
    pub entries_behind : List Position
    pub entries : entry_positions epoch s ≡ entries_before ++ entry_position epoch s first w ∷ entries_behind
    pub entry_number : length entries_before ≡ i
    pub entries_before_differ : AllByRecursion (IsNotOf w) entries_before
    pub entries_behind_differ : AllByRecursion (IsNotOf w) entries_behind
    pub blocks_before : List Position
    pub blocks_behind : List Position
    pub blocks : block_positions epoch s ≡ blocks_before ++ (map (block_position epoch s first w) (range_with_len 0 (word_blocks s w)) ++ blocks_behind)
    pub block_number : length blocks_before ≡ first
    pub blocks_before_differ : AllByRecursion (IsNotOf w) blocks_before
    pub blocks_behind_differ : AllByRecursion (IsNotOf w) blocks_behind

  pub home_at : (i : ℕ) → position (bytes_eq w) (setup_words s) ≡ Some i → HomeAt i (sum_by (word_blocks s) (take i (setup_words s)))
  home_at i e = record {
    entries_before = entries_from epoch s 0 p.left;
    entries_behind = entries_from epoch s (first + word_blocks s w) p.right ++ dummies;
    entries =
        ap (λ own. own ++ dummies)
        (ap (entries_from epoch s 0) p.parts ∙ entries-append 0 p.left (w ∷ p.right) ∙ ap (λ n. entries_from epoch s 0 p.left ++ entries_from epoch s n (w ∷ p.right)) (zero-add (sum_by (word_blocks s) p.left) ∙ sym at_first))
        ∙ append_assoc (entries_from epoch s 0 p.left) (entries_from epoch s first (w ∷ p.right)) dummies;
    entry_number = length-entries 0 p.left ∙ p.size;
    entries_before_differ = entries_not_of 0 p.left p.left_differ;
    entries_behind_differ =
        AllByRecursion-append (IsNotOf w) (entries_from epoch s (first + word_blocks s w) p.right) dummies (entries_not_of (first + word_blocks s w) p.right p.right_differ) dummy_entries_not_of;
    blocks_before = blocks_from epoch s 0 p.left;
    blocks_behind = blocks_from epoch s (first + word_blocks s w) p.right ++ dummies2;
    blocks =
        ap (λ own. own ++ dummies2)
        (ap (blocks_from epoch s 0) p.parts ∙ blocks-append 0 p.left (w ∷ p.right) ∙ ap (λ n. blocks_from epoch s 0 p.left ++ blocks_from epoch s n (w ∷ p.right)) (zero-add (sum_by (word_blocks s) p.left) ∙ sym at_first))
        ∙ append_assoc (blocks_from epoch s 0 p.left) (blocks_from epoch s first (w ∷ p.right)) dummies2
        ∙ ap (λ rest. blocks_from epoch s 0 p.left ++ rest) (append_assoc (map (block_position epoch s first w) (range_with_len 0 (word_blocks s w))) (blocks_from epoch s (first + word_blocks s w) p.right) dummies2);
    block_number = length-blocks 0 p.left ∙ sym at_first;
    blocks_before_differ = blocks_not_of 0 p.left p.left_differ;
    blocks_behind_differ =
        AllByRecursion-append (IsNotOf w) (blocks_from epoch s (first + word_blocks s w) p.right) dummies2 (blocks_not_of (first + word_blocks s w) p.right p.right_differ) dummy_blocks_not_of;
  }
    where
      dummies : List Position
      dummies = map (dummy_entry epoch s) (range_with_len 0 (dummy_entries s))

      dummies2 : List Position
      dummies2 = map (dummy_block epoch s) (range_with_len 0 (dummy_blocks s))

      p : Split (setup_words s) w i
      p = split (setup_words s) (IsDistinct-first_seen (all_words s.documents)) w i e

      first : ℕ
      first = sum_by (word_blocks s) (take i (setup_words s))

      at_first : first ≡ sum_by (word_blocks s) p.left
      at_first = ap (sum_by (word_blocks s)) ((λ j. take (sym p.size j) (p.parts j)) ∙ take-middle p.left (w ∷ p.right))

  -- a word that isn't the setup's has neither
  pub no_home : position (bytes_eq w) (setup_words s) ≡ None → AllByRecursion (IsNotOf w) (entry_positions epoch s) × AllByRecursion (IsNotOf w) (block_positions epoch s)
  no_home e =
      let differ = none_differ w (setup_words s) e in (
        AllByRecursion-append (IsNotOf w) (entries_from epoch s 0 (setup_words s)) (map (dummy_entry epoch s) (range_with_len 0 (dummy_entries s))) (entries_not_of 0 (setup_words s) differ) dummy_entries_not_of,
        AllByRecursion-append (IsNotOf w) (blocks_from epoch s 0 (setup_words s)) (map (dummy_block epoch s) (range_with_len 0 (dummy_blocks s))) (blocks_not_of 0 (setup_words s) differ) dummy_blocks_not_of,
      )
