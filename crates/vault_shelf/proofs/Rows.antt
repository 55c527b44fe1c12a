-- Rows, and tests.
use Rattle.std.proofs.Common.{◌≡◌, ℕ, zero, suc, Bool, true, false, ◌&&◌, ◌==◌, List, [], ◌∷◌, ◌++◌, length, refl, sym, Some, None}
use Rattle.std.specs.List.{slice_get}
use Rattle.std.proofs.lemmas.Bool.{true≢false}
use Rattle.std.proofs.lemmas.Bool.Decides.{Decides-eqb}

pub slice_get-more : {A : Type 0} (xs ys : List A) (i : ℕ) (x : A) → slice_get xs i ≡ Some x → slice_get (xs ++ ys) i ≡ Some x
slice_get-more [] ys i x e = absurd (let no : None ≡ Some x = e in cc)
slice_get-more (y ∷ xs) ys zero x e = e
slice_get-more (y ∷ xs) ys (suc i) x e = slice_get-more xs ys i x e

pub slice_get-last : {A : Type 0} (xs : List A) (y : A) → slice_get (xs ++ y ∷ []) (length xs) ≡ Some y
slice_get-last [] y = refl
slice_get-last (x ∷ xs) y = slice_get-last xs y

pub no_some : {A B : Type 0} (x : A) → None ≡ Some x → B
no_some x e = absurd (let no : None ≡ Some x = e in cc)

pub some_inside : {A : Type 0} (x y : A) → Some x ≡ Some y → x ≡ y
some_inside x y e = cc

pub and_left : (a b : Bool) → (a && b) ≡ true → a ≡ true
and_left true b e = refl
and_left false b e = absurd (true≢false (sym e))

pub and_right : (a b : Bool) → (a && b) ≡ true → b ≡ true
and_right true b e = e
and_right false b e = absurd (true≢false (sym e))

pub same_number : (n : ℕ) → (n == n) ≡ true
same_number n = (Decides-eqb n n).1 refl

pub number_is : (m n : ℕ) → (m == n) ≡ true → m ≡ n
number_is m n e = (Decides-eqb m n).0 e

pub other_number : (m n : ℕ) → (m ≡ n → ⊥) → (m == n) ≡ false
other_number m n differ = by (m == n) refl
  where
    by : (b : Bool) → (m == n) ≡ b → b ≡ false
    by false e = refl
    by true e = absurd (differ (number_is m n e))
