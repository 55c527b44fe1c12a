-- Two lists are the same or differ first at one place.
use Rattle.std.proofs.Common.{◌≡◌, ◌≢◌, ◌⊎◌, inl, inr, ℕ, zero, suc, List, [], ◌∷◌, take, refl, sym, ap, Some, None}
use Rattle.std.specs.Prelude.{slice_get}
use Rattle.def_comparison.specs.FirstDifference.{IsFirstDifference}

module _ {A : Type 0} where
  pub head_is : (x y : A) (xs ys : List A) → x ∷ xs ≡ y ∷ ys → x ≡ y
  head_is x y xs ys e = cc

  pub rest_is : (x y : A) (xs ys : List A) → x ∷ xs ≡ y ∷ ys → xs ≡ ys
  rest_is x y xs ys e = cc

  pub some_is : (x y : A) → Some x ≡ Some y → x ≡ y
  some_is x y e = cc

  none_none : {B : Type 0} (x : A) (xs : List A) → [] ≡ x ∷ xs → B
  none_none x xs e = absurd (let no : [] ≡ x ∷ xs = e in cc)

  -- lists that differ aren't the same
  pub differ : (k : ℕ) (left right : List A) → IsFirstDifference k left right → left ≢ right
  differ k left right first same = first.there (ap (λ (xs : List A). slice_get xs k) same)

  -- there is one such place
  pub one_difference : (j k : ℕ) (left right : List A) → IsFirstDifference j left right → IsFirstDifference k left right → j ≡ k
  one_difference zero zero left right at more = refl
  one_difference j k [] [] at more = absurd (at.there refl)
  one_difference zero (suc k) [] (y ∷ ys) at more = none_none y (take k ys) more.before
  one_difference zero (suc k) (x ∷ xs) [] at more = none_none x (take k xs) (sym more.before)
  one_difference zero (suc k) (x ∷ xs) (y ∷ ys) at more = absurd (at.there (ap (λ (z : A). Some z) (head_is x y (take k xs) (take k ys) more.before)))
  one_difference (suc j) zero [] (y ∷ ys) at more = none_none y (take j ys) at.before
  one_difference (suc j) zero (x ∷ xs) [] at more = none_none x (take j xs) (sym at.before)
  one_difference (suc j) zero (x ∷ xs) (y ∷ ys) at more = absurd (more.there (ap (λ (z : A). Some z) (head_is x y (take j xs) (take j ys) at.before)))
  one_difference (suc j) (suc k) [] (y ∷ ys) at more = none_none y (take j ys) at.before
  one_difference (suc j) (suc k) (x ∷ xs) [] at more = none_none x (take j xs) (sym at.before)
  one_difference (suc j) (suc k) (x ∷ xs) (y ∷ ys) at more =
      ap (λ (n : ℕ). suc n)
      (one_difference j k xs ys (record { before = rest_is x y (take j xs) (take j ys) at.before; there = at.there })
      (record { before = rest_is x y (take k xs) (take k ys) more.before; there = more.there }))

  -- where it can be told of two items whether they are the same, two lists are the same or there is a place at which they differ first
  pub same_or_differ : ((x y : A) → (x ≡ y) ⊎ (x ≢ y)) → (left right : List A) → (left ≡ right) ⊎ ((k : ℕ) × IsFirstDifference k left right)
  same_or_differ told [] [] = inl refl
  same_or_differ told [] (y ∷ ys) = inr (0, record { before = refl; there = λ e. absurd (let no : None ≡ Some y = e in cc) })
  same_or_differ told (x ∷ xs) [] = inr (0, record { before = refl; there = λ e. absurd (let no : Some x ≡ None = e in cc) })
  same_or_differ told (x ∷ xs) (y ∷ ys) = by (told x y) (same_or_differ told xs ys)
    where
      by : (x ≡ y) ⊎ (x ≢ y) → (xs ≡ ys) ⊎ ((k : ℕ) × IsFirstDifference k xs ys) → (x ∷ xs ≡ y ∷ ys) ⊎ ((k : ℕ) × IsFirstDifference k (x ∷ xs) (y ∷ ys))
      by (inr other) rest = inr (0, record { before = refl; there = λ e. other (some_is x y e) })
      by (inl same) (inl rest) = inl (λ i. same i ∷ rest i)
      by (inl same) (inr at) = inr (suc at.0, record { before = λ i. same i ∷ at.1.before i; there = at.1.there })
