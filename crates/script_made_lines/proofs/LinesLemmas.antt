-- Where a line stands among several runs of lines.
use Rattle.std.proofs.Common.{◌≡◌, ℕ, zero, suc, ◌+◌, ◌<◌, ◌≤◌, List, [], ◌∷◌, ◌++◌, length, map, slice_get, Option, Some, None, refl, sym, ap, ◌∙◌, arith}
use Rattle.std.specs.List.{range_with_len}
use Rattle.std.proofs.lemmas.List.FromFn.{length-map-range_with_len, get_or-map-range_with_len}
use Rattle.std.proofs.lemmas.Option.{slice_get-get_or, slice_get_past}

slice_get-left : {A : Type 0} (xs ys : List A) (k : ℕ) → k < length xs → slice_get (xs ++ ys) k ≡ slice_get xs k
slice_get-left [] ys k h = absurd (omega arith)
slice_get-left (x ∷ xs) ys zero h = refl
slice_get-left (x ∷ xs) ys (suc k) h = slice_get-left xs ys k (omega arith)

slice_get-right : {A : Type 0} (xs ys : List A) (k : ℕ) → slice_get (xs ++ ys) (length xs + k) ≡ slice_get ys k
slice_get-right [] ys k = ap (λ (j : ℕ). slice_get ys j) (let none : 0 + k ≡ k = omega arith in none)
slice_get-right (x ∷ xs) ys k =
    ap (λ (j : ℕ). slice_get (x ∷ xs ++ ys) j) (let more : suc (length xs) + k ≡ suc (length xs + k) = omega arith in more) ∙ slice_get-right xs ys k

module _ {A : Type 0} (f : ℕ → A) (a n : ℕ) where
  -- in the first run
  pub in_run : (behind : List A) (k j : ℕ) (x : A) → k < n → a + k ≡ j → x ≡ f j → Some x ≡ slice_get (map f (range_with_len a n) ++ behind) k
  in_run behind k j x within place is =
      let lines = map f (range_with_len a n) in
      let inside : k < length lines = omega (arith, within, length-map-range_with_len f a n) in
      ap Some (is ∙ sym (get_or-map-range_with_len f a n k j x within place))
      ∙ sym (slice_get-get_or lines k x inside)
      ∙ sym (slice_get-left lines behind k inside)

  -- behind it
  pub behind_run : (behind : List A) (k j : ℕ) (x : Option A) → k ≡ n + j → x ≡ slice_get behind j → x ≡ slice_get (map f (range_with_len a n) ++ behind) k
  behind_run behind k j x place is =
      let lines = map f (range_with_len a n) in
      let at : length lines + j ≡ k = omega (arith, place, length-map-range_with_len f a n) in
      is ∙ sym (slice_get-right lines behind j) ∙ ap (λ (i : ℕ). slice_get (lines ++ behind) i) at

  -- in the last run, and behind it
  pub in_last : (k j : ℕ) (x : A) → k < n → a + k ≡ j → x ≡ f j → Some x ≡ slice_get (map f (range_with_len a n)) k
  in_last k j x within place is =
      let lines = map f (range_with_len a n) in
      let inside : k < length lines = omega (arith, within, length-map-range_with_len f a n) in
      ap Some (is ∙ sym (get_or-map-range_with_len f a n k j x within place)) ∙ sym (slice_get-get_or lines k x inside)

  pub behind_last : (k : ℕ) → n ≤ k → None ≡ slice_get (map f (range_with_len a n)) k
  behind_last k past = sym (slice_get_past (map f (range_with_len a n)) k (omega (arith, past, length-map-range_with_len f a n)))
