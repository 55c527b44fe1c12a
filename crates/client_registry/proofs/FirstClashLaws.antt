use Rattle.std.proofs.Common.{◌≡◌, ℕ, zero, suc, ◌+◌, ◌<◌, true, false, List, [], ◌∷◌, ◌++◌, length, take, Option, None, Some, is_some, position, slice_get, get_or, refl, sym, ap, ◌∙◌, arith, add-zero, add-one, append_assoc}
use Rattle.std.specs.List.{list_any, filter_map, range_with_len, cons_option}
use Rattle.std.specs.Option.{option_or, option_map}
use Rattle.std.specs.Str.{bytes_eq}
use Rattle.std.proofs.lemmas.Bool.{true≢false}
use Rattle.std.proofs.lemmas.List.{append-nil, length_push, get_or_append_left, get_or_push, take_at, take-append-le}
use Rattle.std.proofs.lemmas.List.Elements.{filter_map-append}
use Rattle.client_registry.proofs.Positions.{is_some-position}
use Rattle.client_registry.specs.DocumentRule.{first_repeat}
use Rattle.client_registry.specs.FirstClash.{clash_at, first_clash}

-- one more number after the others
range_with_len-suc : (a n : ℕ) → range_with_len a (suc n) ≡ range_with_len a n ++ (a + n) ∷ []
range_with_len-suc a zero = ap (λ k. k ∷ []) (sym (add-zero a))
range_with_len-suc a (suc n) =
    let e : a + 1 + n ≡ a + suc n = omega arith in
    ap (λ r. a ∷ r) (range_with_len-suc (a + 1) n ∙ ap (λ k. range_with_len (a + 1) n ++ k ∷ []) e)

-- functions that agree on the numbers give the same of them
filter_map-range_with_len : {Y : Type 0} (f g : ℕ → Option Y) (a n : ℕ) → ((k : ℕ) → k < a + n → f k ≡ g k) → filter_map f (range_with_len a n) ≡ filter_map g (range_with_len a n)
filter_map-range_with_len f g a zero same = refl
filter_map-range_with_len f g a (suc n) same =
    let here = same a (omega arith) in
    let rest = filter_map-range_with_len f g (a + 1) n (λ k lt. same k (omega arith)) in
    λ i. cons_option (here i) (rest i)

-- the first of a list with one more after it
first_push : {Y : Type 0} (ys : List Y) (o : Option Y) → slice_get (ys ++ cons_option o []) 0 ≡ option_or (slice_get ys 0) o
first_push [] None = refl
first_push [] (Some y) = refl
first_push (x ∷ ys) o = refl

-- a place within is judged by the values up to it
clash_at-append : (xs ys : List (List ℕ)) (j : ℕ) → j < length xs → clash_at (xs ++ ys) j ≡ clash_at xs j
clash_at-append xs ys j lt =
    ap (λ x. option_map (λ i. (i, j)) (position (bytes_eq x) (take j (xs ++ ys)))) (get_or_append_left xs ys [] j lt)
    ∙ ap (λ before. option_map (λ i. (i, j)) (position (bytes_eq (get_or xs j [])) before)) (take-append-le j xs ys (omega arith))

-- one more value at the end: the clash of those before, else the first of them that equals it
pub first_clash-push : (xs : List (List ℕ)) (x : List ℕ) → first_clash (xs ++ x ∷ []) ≡ option_or (first_clash xs) (option_map (λ i. (i, length xs)) (position (bytes_eq x) xs))
first_clash-push xs x =
    let n = length xs in
    let all = xs ++ x ∷ [] in
    let len : length all ≡ suc n = length_push xs x ∙ add-one n in
    let longer : range_with_len 0 (length all) ≡ range_with_len 0 n ++ (0 + n) ∷ [] = ap (range_with_len 0) len ∙ range_with_len-suc 0 n in
    let zero_add : 0 + n ≡ n = omega arith in
    let last : clash_at all (0 + n) ≡ option_map (λ i. (i, n)) (position (bytes_eq x) xs) =
    ap (clash_at all) zero_add
    ∙ ap (λ y. option_map (λ i. (i, n)) (position (bytes_eq y) (take n all))) (get_or_push xs x [] n refl)
    ∙ ap (λ before. option_map (λ i. (i, n)) (position (bytes_eq x) before)) (take_at xs (x ∷ []) n refl) in
    ap (λ r. slice_get (filter_map (clash_at all) r) 0) longer
    ∙ ap (λ r. slice_get r 0) (filter_map-append (clash_at all) (range_with_len 0 n) ((0 + n) ∷ []))
    ∙ ap (λ front. slice_get (front ++ cons_option (clash_at all (0 + n)) []) 0) (filter_map-range_with_len (clash_at all) (clash_at xs) 0 n (λ k lt. clash_at-append xs (x ∷ []) k (omega arith)))
    ∙ ap (λ o. slice_get (filter_map (clash_at xs) (range_with_len 0 n) ++ cons_option o []) 0) last
    ∙ first_push (filter_map (clash_at xs) (range_with_len 0 n)) (option_map (λ i. (i, n)) (position (bytes_eq x) xs))

-- what stands after a clash changes nothing
pub first_clash-append : (xs ys : List (List ℕ)) (c : ℕ × ℕ) → first_clash xs ≡ Some c → first_clash (xs ++ ys) ≡ Some c
first_clash-append xs [] c found = ap first_clash (append-nil xs) ∙ found
first_clash-append xs (y ∷ ys) c found =
    let more : first_clash (xs ++ y ∷ []) ≡ Some c =
    first_clash-push xs y ∙ ap (λ o. option_or o (option_map (λ i. (i, length xs)) (position (bytes_eq y) xs))) found in
    ap first_clash (sym (append_assoc xs (y ∷ []) ys)) ∙ first_clash-append (xs ++ y ∷ []) ys c more

-- a value that none before equals makes no clash
pub first_repeat-new : (xs : List (List ℕ)) (x : List ℕ) → first_repeat xs ≡ None → list_any (bytes_eq x) xs ≡ false → first_repeat (xs ++ x ∷ []) ≡ None
first_repeat-new xs x clear absent = by (first_clash xs) (position (bytes_eq x) xs) (first_clash-push xs x) clear (is_some-position (bytes_eq x) xs ∙ absent)
  where
    by : (c : Option (ℕ × ℕ)) (o : Option ℕ) → first_clash (xs ++ x ∷ []) ≡ option_or c (option_map (λ i. (i, length xs)) o) → option_map (λ places. places.1) c ≡ None → is_some o ≡ false → first_repeat (xs ++ x ∷ []) ≡ None
    by None None e h a = ap (option_map (λ places. places.1)) e
    by None (Some i) e h a = absurd (true≢false a)
    by (Some p) o e h a = absurd (cc)

-- a value that one before equals is the first to repeat, where none before it does
pub first_repeat-old : (xs : List (List ℕ)) (x : List ℕ) (ys : List (List ℕ)) → first_repeat xs ≡ None → list_any (bytes_eq x) xs ≡ true → first_repeat (xs ++ x ∷ [] ++ ys) ≡ Some (length xs)
first_repeat-old xs x ys clear present = by (first_clash xs) (position (bytes_eq x) xs) (first_clash-push xs x) clear (is_some-position (bytes_eq x) xs ∙ present)
  where
    by : (c : Option (ℕ × ℕ)) (o : Option ℕ) → first_clash (xs ++ x ∷ []) ≡ option_or c (option_map (λ i. (i, length xs)) o) → option_map (λ places. places.1) c ≡ None → is_some o ≡ true → first_repeat (xs ++ x ∷ [] ++ ys) ≡ Some (length xs)
    by None None e h a = absurd (true≢false (sym a))
    by None (Some i) e h a = ap (option_map (λ places. places.1)) (first_clash-append (xs ++ x ∷ []) ys (i, length xs) e)
    by (Some p) o e h a = absurd (cc)
