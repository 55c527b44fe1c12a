-- Numbers made of values: where they differ, the values do.
use Rattle.std.proofs.Common.{◌≡◌, ℕ, List, [], map, get_or, Option, None, Some, nat_eq, refl, sym, ap, ◌∙◌, arith}
use Rattle.std.specs.Option.{option_map}
use Rattle.std.specs.List.{IsDistinct}
use Rattle.std.specs.List.Sorted.{IsPermutation, IsStrictlyIncreasing}
use Rattle.std.proofs.lemmas.Bool.{eqb-false, ne_eqb}
use Rattle.std.proofs.lemmas.Cmp.{nat_eq_equiv}
use Rattle.std.proofs.lemmas.List.{length-map, get_or-map}
use Rattle.std.proofs.lemmas.List.Sorted.{IsPermutation-sym}
use Rattle.std.proofs.lemmas.Map.Keys.{apart_from_distinct, below_from_sorted, sorted_from_strictly_increasing, IsDistinct-from_apart, IsDistinct-IsPermutation}
use Rattle.client_registry.proofs.DistinctLaws.{first_clash-places}
use Rattle.client_registry.specs.DocumentRule.{first_repeat}
use Rattle.client_registry.specs.FirstClash.{first_clash}

-- numbers that rise differ
IsDistinct-rising : (xs : List ℕ) → IsStrictlyIncreasing xs → IsDistinct nat_eq xs
IsDistinct-rising xs rising =
    IsDistinct-from_apart nat_eq xs
    (λ i j d lt within. ne_eqb (get_or xs i d) (get_or xs j d) (λ e. omega (arith, below_from_sorted xs i j d (sorted_from_strictly_increasing xs rising) lt within, e)))

-- numbers differ that rise once they are sorted
pub IsDistinct-sorted : (xs ys : List ℕ) → IsPermutation xs ys → IsStrictlyIncreasing ys → IsDistinct nat_eq xs
IsDistinct-sorted xs ys moved rising = IsDistinct-IsPermutation nat_eq nat_eq_equiv.symm ys xs (IsPermutation-sym xs ys moved) (IsDistinct-rising ys rising)

-- among values whose numbers differ none stands twice
pub first_repeat-differ : (f : List ℕ → ℕ) (xs : List (List ℕ)) → IsDistinct nat_eq (map f xs) → first_repeat xs ≡ None
first_repeat-differ f xs differ = by (first_clash xs) refl
  where
    by : (o : Option (ℕ × ℕ)) → first_clash xs ≡ o → option_map (λ (places : ℕ × ℕ). places.1) o ≡ None
    by None e = refl
    by (Some c) e =
        let i = c.0 in
        let j = c.1 in
        let places = first_clash-places xs i j e in
        let apart = apart_from_distinct nat_eq (map f xs) i j 0 differ places.order (omega (arith, places.within, length-map xs f)) in
        let at_i = get_or-map f xs i [] 0 (omega (arith, places.order, places.within)) in
        let at_j = get_or-map f xs j [] 0 places.within in
        absurd (eqb-false (get_or (map f xs) i 0) (get_or (map f xs) j 0) apart (at_i ∙ ap f places.same ∙ sym at_j))
