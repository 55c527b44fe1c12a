-- A first difference lies within the longer of two lists.
use Rattle.std.proofs.Common.{ℕ, ◌<◌, List, length, sym, ◌∙◌, arith, ⊎_elim}
use Rattle.std.proofs.lemmas.Bool.{cases_lt}
use Rattle.std.proofs.lemmas.Option.{slice_get_past}
use Rattle.def_comparison.specs.FirstDifference.{IsFirstDifference}

-- so it has a number, where the items of both have
pub difference_within : {A : Type 0} (k n : ℕ) (xs ys : List A) → length xs < n → length ys < n → IsFirstDifference k xs ys → k < n
difference_within k n xs ys few few2 at =
    ⊎_elim (λ (low : k < length xs). omega (arith, low, few))
    (λ high.
    ⊎_elim (λ (low : k < length ys). omega (arith, low, few2))
    (λ higher. absurd (at.there (slice_get_past xs k high ∙ sym (slice_get_past ys k higher))))
    (cases_lt k (length ys)))
    (cases_lt k (length xs))
