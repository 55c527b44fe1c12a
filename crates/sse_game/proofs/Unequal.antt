-- Two histories that leaked the same, and then something else.
use Rattle.std.proofs.Common.{◌≡◌, ◌≢◌, ℕ, List, [], ◌∷◌, ◌++◌, length, take, Some, refl, sym, ap, ◌∙◌, subst}
use Rattle.std.specs.List.{slice_get}
use Rattle.std.proofs.Math.Seq.{take-append_seam}
use Rattle.def_comparison.specs.FirstDifference.{IsFirstDifference}

inside : {A : Type 0} (x y : A) → Some x ≡ Some y → x ≡ y
inside x y e = cc

at_end : {A : Type 0} (xs : List A) (x : A) → slice_get (xs ++ x ∷ []) (length xs) ≡ Some x
at_end [] x = refl
at_end (y ∷ xs) x = at_end xs x

pub first_difference : {A : Type 0} (k : ℕ) (before left right : List A) (x y : A) → left ≡ before ++ x ∷ [] → right ≡ before ++ y ∷ [] → k ≡ length before → x ≢ y → IsFirstDifference k left right
first_difference k before left right x y is is2 count other =
    subst (λ n. IsFirstDifference n left right) (sym count)
    (record {
      before = ap (take (length before)) is ∙ take-append_seam before (x ∷ []) ∙ sym (ap (take (length before)) is2 ∙ take-append_seam before (y ∷ []));
      there = λ e. other (inside x y (sym (at_end before x) ∙ ap (λ xs. slice_get xs (length before)) (sym is) ∙ e ∙ ap (λ xs. slice_get xs (length before)) is2 ∙ at_end before y));
    })
