-- Lists that grow item by item.
use Rattle.std.proofs.Common.{◌≡◌, ℕ, zero, suc, ◌+◌, Bool, true, false, cond, List, [], ◌∷◌, ◌++◌, map, drop, filter, take, refl, ap, ◌∙◌, arith, Some}
use Rattle.std.specs.Prelude.{slice_get, if◌then◌else◌}
use Rattle.std.specs.List.{range_with_len}
use Rattle.std.proofs.lemmas.List.{map-append}
use Rattle.std.proofs.lemmas.List.Elements.{filter-append}
use Rattle.client_live_docs.proofs.Pushing.{take-one_more}

-- one number more
pub range-more : (a n : ℕ) → range_with_len a (suc n) ≡ range_with_len a n ++ (a + n) ∷ []
range-more a zero = ap (λ k. k ∷ []) (let same : a ≡ a + 0 = omega arith in same)
range-more a (suc n) = ap (λ rest. a ∷ rest) (range-more (a + 1) n ∙ ap (λ k. range_with_len (a + 1) n ++ k ∷ []) (let same : a + 1 + n ≡ a + suc n = omega arith in same))

-- a list around one of its items
pub around : {X : Type 0} (xs : List X) (i : ℕ) (x : X) → slice_get xs i ≡ Some x → xs ≡ take i xs ++ x ∷ drop (suc i) xs
around [] i x at = absurd (cc)
around (y ∷ ys) zero x at = let same : y ≡ x = cc in ap (λ z. z ∷ ys) same
around (y ∷ ys) (suc i) x at = ap (λ rest. y ∷ rest) (around ys i x at)

-- what passes of it
pub passing-more : {X Y : Type 0} (f : X → Y) (p : X → Bool) (xs : List X) (i : ℕ) (x : X) (b : Bool) → slice_get xs i ≡ Some x → p x ≡ b
    → map f (filter p (take (i + 1) xs)) ≡ map f (filter p (take i xs)) ++ (if b then f x ∷ [] else [])
passing-more {X} {Y} f p xs i x b at is =
    ap (λ ys. map f (filter p ys)) (take-one_more xs i x at)
    ∙ ap (map f) (filter-append p (take i xs) (x ∷ []) ∙ ap (λ (c : Bool). filter p (take i xs) ++ cond c (x ∷ []) []) is)
    ∙ map-append f (filter p (take i xs)) (cond b (x ∷ []) [])
    ∙ ap (λ rest. map f (filter p (take i xs)) ++ rest) (by b)
  where
    by : (c : Bool) → map f (cond c (x ∷ []) []) ≡ (if c then f x ∷ [] else [])
    by true = refl
    by false = refl
