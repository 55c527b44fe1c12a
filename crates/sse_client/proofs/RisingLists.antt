-- The identifiers of a search rise, and so do those of each of several.
use Rattle.std.proofs.Common.{◌≡◌, ℕ, zero, suc, ◌<◌, ◌≤◌, Bool, true, false, List, [], ◌∷◌, length, map, slice_index_or, refl, sym, subst, arith}
use Rattle.std.specs.Prelude.{nat_le, if◌then◌else◌}
use Rattle.std.specs.List.{AllByRecursion}
use Rattle.std.specs.List.Sorted.{IsNonDecreasing}
use Rattle.std.proofs.lemmas.Bool.{leb-true, leb-false}
use Rattle.client_registry.specs.Live.{in_order, insert_in_order}

-- no number is above one after it
abbrev IsUp : List ℕ → Type 0
IsUp [] = Unit {0}
IsUp (x ∷ xs) = AllByRecursion (λ y. x ≤ y) xs × IsUp xs

not_below : (n m : ℕ) (xs : List ℕ) → n ≤ m → AllByRecursion (λ y. m ≤ y) xs → AllByRecursion (λ y. n ≤ y) xs
not_below n m [] le each = tt
not_below n m (x ∷ xs) le each = (omega (arith, le, each.0), not_below n m xs le each.1)

not_below-insert : (m n : ℕ) (xs : List ℕ) → m ≤ n → AllByRecursion (λ y. m ≤ y) xs → AllByRecursion (λ y. m ≤ y) (insert_in_order n xs)
not_below-insert m n [] le each = (le, tt)
not_below-insert m n (x ∷ xs) le each = by (nat_le n x) (not_below-insert m n xs le each.1)
  where
    by : (b : Bool) → AllByRecursion (λ y. m ≤ y) (insert_in_order n xs) → AllByRecursion (λ y. m ≤ y) (if b then n ∷ x ∷ xs else x ∷ insert_in_order n xs)
    by true rest = (le, each)
    by false rest = (each.0, rest)

IsUp-insert : (n : ℕ) (xs : List ℕ) → IsUp xs → IsUp (insert_in_order n xs)
IsUp-insert n [] up = (tt, tt)
IsUp-insert n (x ∷ xs) up = by (nat_le n x) refl (IsUp-insert n xs up.1)
  where
    by : (b : Bool) → nat_le n x ≡ b → IsUp (insert_in_order n xs) → IsUp (if b then n ∷ x ∷ xs else x ∷ insert_in_order n xs)
    by true e rest = let le : n ≤ x = leb-true n x e in ((le, not_below n x xs le up.0), up)
    by false e rest = let lt : x < n = leb-false n x e in (not_below-insert x n xs (omega (arith, lt)) up.0, rest)

IsUp-in_order : (xs : List ℕ) → IsUp (in_order xs)
IsUp-in_order [] = tt
IsUp-in_order (x ∷ xs) = IsUp-insert x (in_order xs) (IsUp-in_order xs)

at_place : (x : ℕ) (xs : List ℕ) → AllByRecursion (λ y. x ≤ y) xs → (j d : ℕ) → j < length xs → x ≤ slice_index_or xs j d
at_place x [] each j d lt = absurd (omega (arith, lt))
at_place x (y ∷ ys) each zero d lt = each.0
at_place x (y ∷ ys) each (suc j) d lt = at_place x ys each.1 j d (omega (arith, lt))

IsNonDecreasing-up : (xs : List ℕ) → IsUp xs → (i j d : ℕ) → i ≤ j → j < length xs → slice_index_or xs i d ≤ slice_index_or xs j d
IsNonDecreasing-up [] up i j d le lt = absurd (omega (arith, lt))
IsNonDecreasing-up (x ∷ xs) up zero zero d le lt = omega arith
IsNonDecreasing-up (x ∷ xs) up zero (suc j) d le lt = at_place x xs up.0 j d (omega (arith, lt))
IsNonDecreasing-up (x ∷ xs) up (suc i) zero d le lt = absurd (omega (arith, le))
IsNonDecreasing-up (x ∷ xs) up (suc i) (suc j) d le lt = IsNonDecreasing-up xs up.1 i j d (omega (arith, le)) (omega (arith, lt))

pub IsNonDecreasing-in_order : (xs : List ℕ) → IsNonDecreasing (in_order xs)
IsNonDecreasing-in_order xs = IsNonDecreasing-up (in_order xs) (IsUp-in_order xs)

-- lists that are answers in order rise, each of them
pub rising_each : {V : Type 0} (items : V → List ℕ) (lists : List V) (answers : List (List ℕ)) → map items lists ≡ map in_order answers → AllByRecursion (λ list. IsNonDecreasing (items list)) lists
rising_each items [] answers same = tt
rising_each items (list ∷ lists) [] same = absurd (cc)
rising_each items (list ∷ lists) (answer ∷ answers) same =
    let head : items list ≡ in_order answer = cc in
    let tail : map items lists ≡ map in_order answers = cc in
    (subst IsNonDecreasing (sym head) (IsNonDecreasing-in_order answer), rising_each items lists answers tail)
