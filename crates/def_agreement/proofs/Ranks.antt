-- In an array of blocks by rising tag, each block stands at the rank of its tag.
use Rattle.std.proofs.Common.{◌≡◌, ◌≢◌, ℕ, zero, suc, ◌+◌, ◌<◌, ◌≤◌, Bool, true, false, cond, ◌&&◌, ◌||◌, List, [], ◌∷◌, length, map, filter, get_or, Some, refl, sym, ap, ◌∙◌, subst, ⊎_elim, arith, zero-add}
use Rattle.std.specs.Prelude.{All, Contains, slice_get, slice_index, slice_index_or, bytes_eq, nat_lt}
use Rattle.std.specs.List.{AllByRecursion, range_with_len}
use Rattle.std.specs.List.Sorted.{IsStrictlySortedBy}
use Rattle.std.specs.Option.{option_map}
use Rattle.std.specs.Ordering.{is_lt, nat_cmp, ordering_reverse}
use Rattle.std.specs.declared.cmp.Ordering.TheVariants.{Less}
use Rattle.std.specs.Cmp.Lexicographic.{slice_cmp, same_text}
use Rattle.std.proofs.lemmas.Bool.{cases_Bool, le-ltb}
use Rattle.std.proofs.lemmas.Cmp.{nat_list_cmp_total, tied_itself}
use Rattle.std.proofs.lemmas.List.{length-map, get_or-map, map-id}
use Rattle.std.proofs.lemmas.List.Elements.{Contains-get_or}
use Rattle.std.proofs.lemmas.List.FromFn.{get_or-map-range_with_len, length-map-range_with_len, length-range_with_len}
use Rattle.std.proofs.lemmas.List.Sums.{length-filter, count_by-le-length}
use Rattle.std.proofs.lemmas.Option.{slice_get-map, slice_get-get_or}
use Rattle.sse_frames.proofs.Sorted.{AllDiffer, Rises-by_bytes}
use Rattle.sse_frames.specs.Frames.{Entry, Rises, labels_of}
use Rattle.sse_frames.specs.Order.{is_below, insert_by, by_bytes}
use Rattle.sse_model.specs.Positions.{comes_before, ranks_of}
use Rattle.def_agreement.proofs.Dictionary.{Contains-by_bytes}

-- How many pass.

-- none, where none passes
length-filter_none : {X : Type 0} (p : X → Bool) (xs : List X) → AllByRecursion (λ x. p x ≡ false) xs → length (filter p xs) ≡ 0
length-filter_none p [] none = refl
length-filter_none p (x ∷ xs) none = ap (λ b. length (cond b (x ∷ filter p xs) (filter p xs))) none.0 ∙ length-filter_none p xs none.1

-- as many places pass as items, where each place passes as its item does
length-filter_range : {X : Type 0} (p : ℕ → Bool) (q : X → Bool) (xs : List X) (a : ℕ) (d : X) → ((i : ℕ) → i < length xs → p (a + i) ≡ q (get_or xs i d))
    → length (filter p (range_with_len a (length xs))) ≡ length (filter q xs)
length-filter_range p q [] a d alike = refl
length-filter_range p q (x ∷ xs) a d alike =
    let first : p a ≡ q x = (let e : a ≡ a + 0 = omega arith in ap p e) ∙ alike 0 (omega arith) in
    let rest = length-filter_range p q xs (a + 1) d (λ i below. (let e : a + 1 + i ≡ a + suc i = omega arith in ap p e) ∙ alike (suc i) (omega (arith, below))) in
    ap (λ b. length (cond b (a ∷ filter p (range_with_len (a + 1) (length xs))) (filter p (range_with_len (a + 1) (length xs))))) first ∙ by (q x) rest
  where
    by : (b : Bool) → length (filter p (range_with_len (a + 1) (length xs))) ≡ length (filter q xs)
        → length (cond b (a ∷ filter p (range_with_len (a + 1) (length xs))) (filter p (range_with_len (a + 1) (length xs)))) ≡ length (cond b (x ∷ filter q xs) (filter q xs))
    by true h = ap (λ n. suc n) h
    by false h = h

length-filter_insert_by : {X : Type 0} (key : X → List ℕ) (p : X → Bool) (x : X) (xs : List X) → length (filter p (insert_by key x xs)) ≡ length (filter p (x ∷ xs))
length-filter_insert_by key p x [] = refl
length-filter_insert_by {X} key p x (y ∷ ys) = by (is_below (key y) (key x)) (length-filter_insert_by key p x ys)
  where
    swap : (b c : Bool) (front back : List X) → length front ≡ length (cond b (x ∷ back) back) → length (cond c (y ∷ front) front) ≡ length (cond b (x ∷ cond c (y ∷ back) back) (cond c (y ∷ back) back))
    swap true true front back h = ap (λ n. suc n) h
    swap true false front back h = h
    swap false true front back h = ap (λ n. suc n) h
    swap false false front back h = h

    by : (b : Bool) → length (filter p (insert_by key x ys)) ≡ length (filter p (x ∷ ys)) → length (filter p (cond b (y ∷ insert_by key x ys) (x ∷ y ∷ ys))) ≡ length (filter p (x ∷ y ∷ ys))
    by true h = swap (p x) (p y) (filter p (insert_by key x ys)) (filter p ys) h
    by false h = refl

-- as many before sorting as after it
length-filter_by_bytes : {X : Type 0} (key : X → List ℕ) (p : X → Bool) (xs : List X) → length (filter p (by_bytes key xs)) ≡ length (filter p xs)
length-filter_by_bytes key p [] = refl
length-filter_by_bytes key p (x ∷ xs) = length-filter_insert_by key p x (by_bytes key xs) ∙ by (p x) (length-filter_by_bytes key p xs)
  where
    by : (b : Bool) → length (filter p (by_bytes key xs)) ≡ length (filter p xs) → length (cond b (x ∷ filter p (by_bytes key xs)) (filter p (by_bytes key xs))) ≡ length (cond b (x ∷ filter p xs) (filter p xs))
    by true h = ap (λ n. suc n) h
    by false h = h

-- Rising keys.

at_key : {X : Type 0} (key : X → List ℕ) (P : List ℕ → Type 0) (xs : List X) (q : ℕ) (d : X) → AllByRecursion P (map key xs) → q < length xs → P (key (get_or xs q d))
at_key key P [] q d all within = absurd (omega (arith, within))
at_key key P (x ∷ xs) zero d all within = all.0
at_key key P (x ∷ xs) (suc q) d all within = at_key key P xs q d all.1 (omega (arith, within))

not_below : (x y : List ℕ) → slice_cmp nat_cmp x y ≡ Less → is_below y x ≡ false
not_below x y less = ap is_lt (nat_list_cmp_total.antisymm y x ∙ ap ordering_reverse less)

none_below : {X : Type 0} (key : X → List ℕ) (k : List ℕ) (xs : List X) → AllByRecursion (λ y. slice_cmp nat_cmp k y ≡ Less) (map key xs) → AllByRecursion (λ y. is_below (key y) k ≡ false) xs
none_below key k [] above = tt
none_below key k (x ∷ xs) above = (not_below k (key x) above.0, none_below key k xs above.1)

-- where keys rise, as many are below one as its place says
place-rises : {X : Type 0} (key : X → List ℕ) (xs : List X) (p : ℕ) (d : X) → Rises (map key xs) → p < length xs → length (filter (λ y. is_below (key y) (key (get_or xs p d))) xs) ≡ p
unfolding IsStrictlySortedBy
place-rises key [] p d rises within = absurd (omega (arith, within))
place-rises key (x ∷ xs) zero d rises within =
    length-filter_none (λ y. is_below (key y) (key x)) (x ∷ xs) (ap is_lt (tied_itself nat_list_cmp_total (key x)), none_below key (key x) xs rises.0)
place-rises key (x ∷ xs) (suc q) d rises within =
    let pivot = key (get_or xs q d) in
    let rest = filter (λ y. is_below (key y) pivot) xs in
    ap (λ b. length (cond b (x ∷ rest) rest)) (ap is_lt (at_key key (λ y. slice_cmp nat_cmp (key x) y ≡ Less) xs q d rises.0 (omega (arith, within))))
    ∙ ap (λ n. suc n) (place-rises key xs q d rises.1 (omega (arith, within)))

-- places of one value among different ones are one
pub places_apart : (xs : List (List ℕ)) (i j : ℕ) → AllDiffer xs → i < length xs → j < length xs → get_or xs i [] ≡ get_or xs j [] → i ≡ j
places_apart [] i j differ first second same = absurd (omega (arith, first))
places_apart (x ∷ xs) zero zero differ first second same = refl
places_apart (x ∷ xs) zero (suc j) differ first second same = absurd (at_key (λ k. k) (λ k. x ≢ k) xs j [] (subst (AllByRecursion (λ k. x ≢ k)) (sym (map-id xs)) differ.0) (omega (arith, second)) same)
places_apart (x ∷ xs) (suc i) zero differ first second same = absurd (at_key (λ k. k) (λ k. x ≢ k) xs i [] (subst (AllByRecursion (λ k. x ≢ k)) (sym (map-id xs)) differ.0) (omega (arith, first)) (sym same))
places_apart (x ∷ xs) (suc i) (suc j) differ first second same = ap (λ n. suc n) (places_apart xs i j differ.1 (omega (arith, first)) (omega (arith, second)) same)

-- Ranks.

-- no rank is above the number of tags
pub ranks_within : (tags : List (List ℕ)) → All (λ rank. rank ≤ length tags) (ranks_of tags)
ranks_within tags k d within =
    let n = length tags in
    let inside : k < n = omega (arith, within, length-map-range_with_len (λ j. length (filter (comes_before tags j) (range_with_len 0 n))) 0 n) in
    let at = get_or-map-range_with_len (λ j. length (filter (comes_before tags j) (range_with_len 0 n))) 0 n k k d inside (zero-add k) in
    omega (arith, at, length-filter (comes_before tags k) (range_with_len 0 n), count_by-le-length (comes_before tags k) (range_with_len 0 n), length-range_with_len 0 n)

module _ (es : List Entry) (differ : AllDiffer (labels_of es)) where
  abbrev tags : List (List ℕ)
  tags = labels_of es

  abbrev sorted : List Entry
  sorted = by_bytes (λ entry. entry.label) es

  tag_at : (i : ℕ) (d : Entry) → i < length es → slice_index_or tags i [] ≡ (get_or es i d).label
  tag_at i d within = get_or-map (λ (e : Entry). e.label) es i d [] within

  no_tie : (i j : ℕ) → i < length es → j < length es → (bytes_eq (slice_index_or tags i []) (slice_index_or tags j []) && nat_lt i j) ≡ false
  no_tie i j first second =
      ⊎_elim
      (λ (same : bytes_eq (slice_index_or tags i []) (slice_index_or tags j []) ≡ true).
      let n = length-map es (λ (e : Entry). e.label) in
      let one = places_apart tags i j differ (omega (arith, first, n)) (omega (arith, second, n)) (same_text (slice_index_or tags i []) (slice_index_or tags j []) (sym same)) in
      ap (λ b. b && nat_lt i j) same ∙ le-ltb i j (omega (arith, one)))
      (λ (other : bytes_eq (slice_index_or tags i []) (slice_index_or tags j []) ≡ false). ap (λ b. b && nat_lt i j) other)
      (cases_Bool (bytes_eq (slice_index_or tags i []) (slice_index_or tags j [])))

  or_nothing : (x y : Bool) → y ≡ false → (x || y) ≡ x
  or_nothing true y h = refl
  or_nothing false y h = h

  -- the rank of a tag is how many tags are below it
  rank_is : (j : ℕ) (d : Entry) → j < length es → slice_index (ranks_of tags) j ≡ length (filter (λ (e : Entry). is_below e.label (get_or es j d).label) es)
  rank_is j d within =
      let n = length-map es (λ (e : Entry). e.label) in
      get_or-map-range_with_len (λ k. length (filter (comes_before tags k) (range_with_len 0 (length tags)))) 0 (length tags) j j 0 (omega (arith, within, n)) (zero-add j)
      ∙ ap (λ m. length (filter (comes_before tags j) (range_with_len 0 m))) n
      ∙ length-filter_range (comes_before tags j) (λ (e : Entry). is_below e.label (get_or es j d).label) es 0 d
      (λ i below.
      ap (comes_before tags j) (zero-add i)
      ∙ or_nothing (is_below (slice_index_or tags i []) (slice_index_or tags j [])) (bytes_eq (slice_index_or tags i []) (slice_index_or tags j []) && nat_lt i j) (no_tie i j below within)
      ∙ (λ k. is_below (tag_at i d below k) (tag_at j d within k)))

  -- each entry stands at its rank
  pub at_rank : (j : ℕ) (d : Entry) → j < length es → slice_get sorted (slice_index (ranks_of tags) j) ≡ Some (get_or es j d)
  at_rank j d within =
      let e = get_or es j d in
      let here : Contains sorted e = Contains-by_bytes (λ (x : Entry). x.label) es e (Contains-get_or es j d within) in
      let same : slice_index (ranks_of tags) j ≡ here.0 =
      rank_is j d within
      ∙ sym (length-filter_by_bytes (λ (x : Entry). x.label) (λ (x : Entry). is_below x.label e.label) es)
      ∙ ap (λ (y : Entry). length (filter (λ (x : Entry). is_below x.label y.label) sorted)) (sym here.2)
      ∙ place-rises (λ (x : Entry). x.label) sorted here.0 e (Rises-by_bytes (λ (x : Entry). x.label) es differ) here.1 in
      ap (slice_get sorted) same ∙ slice_get-get_or sorted here.0 e here.1 ∙ ap (λ x. Some x) here.2

  -- and its text in the array
  pub text_at_rank : (j : ℕ) (d : Entry) → j < length es → slice_get (map (λ (e : Entry). e.text) sorted) (slice_index (ranks_of tags) j) ≡ Some (get_or es j d).text
  text_at_rank j d within = slice_get-map (λ (e : Entry). e.text) sorted (slice_index (ranks_of tags) j) ∙ ap (option_map (λ (e : Entry). e.text)) (at_rank j d within)
