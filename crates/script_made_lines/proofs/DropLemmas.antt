-- What is left of a list behind a place.
use Rattle.std.proofs.Common.{◌≡◌, ℕ, zero, suc, ◌+◌, ◌≤◌, List, [], ◌∷◌, length, drop, slice_get, Some, None, refl, sym, ap, ◌∙◌, arith}

pub drop-head : {A : Type 0} (xs : List A) (k : ℕ) (x : A) → slice_get xs k ≡ Some x → drop k xs ≡ x ∷ drop (k + 1) xs
drop-head [] k x e = absurd (cc)
drop-head (y ∷ xs) zero x e = let same : y ≡ x = cc in ap (λ h. h ∷ xs) same
drop-head (y ∷ xs) (suc k) x e = drop-head xs k x e ∙ ap (λ rest. x ∷ rest) (let more : suc k + 1 ≡ suc (k + 1) = omega arith in sym (ap (λ (i : ℕ). drop i (y ∷ xs)) more))

pub drop-none : {A : Type 0} (xs : List A) (k : ℕ) → slice_get xs k ≡ None → drop k xs ≡ []
drop-none [] zero e = refl
drop-none [] (suc k) e = refl
drop-none (y ∷ xs) zero e = absurd (cc)
drop-none (y ∷ xs) (suc k) e = drop-none xs k e

pub drop-past : {A : Type 0} (xs : List A) (k : ℕ) → length xs ≤ k → drop k xs ≡ []
drop-past [] zero h = refl
drop-past [] (suc k) h = refl
drop-past (y ∷ xs) zero h = absurd (omega arith)
drop-past (y ∷ xs) (suc k) h = drop-past xs k (omega arith)
