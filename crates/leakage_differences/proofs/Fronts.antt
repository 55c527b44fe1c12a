-- Lists whose fronts are the same.
use Rattle.std.proofs.Common.{◌≡◌, ◌≢◌, ℕ, zero, suc, ◌+◌, ◌<◌, ◌≤◌, min, List, [], ◌∷◌, length, map, take, refl, sym, ap, ◌∙◌, arith, ⊎_elim, Some, None}
use Rattle.std.specs.Prelude.{get_or, option_map, slice_get}
use Rattle.std.proofs.Math.Nat.{min-eq_left, min-eq_right}
use Rattle.std.proofs.lemmas.Bool.{cases_lt}
use Rattle.std.proofs.lemmas.Option.{slice_get-map, slice_get_past, slice_get_read}
use Rattle.def_comparison.proofs.FirstDifferences.{head_is, rest_is, some_is}
use Rattle.def_comparison.specs.FirstDifference.{IsFirstDifference}

module _ {A : Type 0} where
  -- and the items behind them
  longer : (k : ℕ) (xs ys : List A) → take k xs ≡ take k ys → slice_get xs k ≡ slice_get ys k → take (suc k) xs ≡ take (suc k) ys
  longer k [] [] front same = refl
  longer zero [] (y ∷ ys) front same = absurd (let no : None ≡ Some y = same in cc)
  longer zero (x ∷ xs) [] front same = absurd (let no : Some x ≡ None = same in cc)
  longer zero (x ∷ xs) (y ∷ ys) front same = λ i. some_is x y same i ∷ []
  longer (suc k) [] (y ∷ ys) front same = absurd (let no : [] ≡ y ∷ take k ys = front in cc)
  longer (suc k) (x ∷ xs) [] front same = absurd (let no : x ∷ take k xs ≡ [] = front in cc)
  longer (suc k) (x ∷ xs) (y ∷ ys) front same = λ i. head_is x y (take k xs) (take k ys) front i ∷ longer k xs ys (rest_is x y (take k xs) (take k ys) front) same i

  pub front_longer : (k : ℕ) (xs ys : List A) → take k xs ≡ take k ys → slice_get xs k ≡ slice_get ys k → take (k + 1) xs ≡ take (k + 1) ys
  front_longer k xs ys front same = let next : k + 1 ≡ suc k = omega arith in ap (λ n. take n xs) next ∙ longer k xs ys front same ∙ ap (λ n. take n ys) (sym next)

  -- nothing is read past the end alone
  past_end : (k : ℕ) (xs : List A) → slice_get xs k ≡ None → length xs ≤ k
  past_end k [] none = omega arith
  past_end zero (x ∷ xs) none = absurd (let no : Some x ≡ None = none in cc)
  past_end (suc k) (x ∷ xs) none = let rest = past_end k xs none in omega (arith, rest)

  -- lists of different lengths that are the same as far as both go differ where the shorter one ends
  pub ends_first : (k : ℕ) (xs ys : List A) → k ≡ min (length xs) (length ys) → length xs ≢ length ys → take k xs ≡ take k ys → IsFirstDifference k xs ys
  ends_first k xs ys is uneven front = record {
    before = front;
    there = λ same.
        ⊎_elim (λ (fewer : length xs < length ys).
        let at : min (length xs) (length ys) ≡ length xs = min-eq_left (let le : length xs ≤ length ys = omega (arith, fewer) in le) in
        let none = past_end k ys (sym same ∙ slice_get_past xs k (omega (arith, is, at))) in
        absurd (omega (arith, is, at, none, fewer)))
        (λ (most : length ys ≤ length xs).
        let at : min (length xs) (length ys) ≡ length ys = min-eq_right most in
        let none = past_end k xs (same ∙ slice_get_past ys k (omega (arith, is, at))) in
        absurd (uneven (omega (arith, is, at, none, most))))
        (cases_lt (length xs) (length ys));
  }

pub read : {X A : Type 0} (f : X → A) (xs : List X) (k : ℕ) (x : X) → k < length xs → x ≡ get_or xs k x → slice_get (map f xs) k ≡ Some (f x)
read f xs k x within is = slice_get-map f xs k ∙ ap (option_map f) (slice_get_read xs (length xs) k x refl within is)
