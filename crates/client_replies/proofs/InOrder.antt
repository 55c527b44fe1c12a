-- Sorting numbers puts them in order: a list that rises is determined by how often each number stands in it.
use Rattle.std.proofs.Common.{◌≡◌, ℕ, suc, ◌+◌, ◌<◌, ◌≤◌, Bool, true, false, List, [], ◌∷◌, length, get_or, refl, sym, ap, subst, ◌∙◌, arith}
use Rattle.std.specs.Prelude.{nat_le, ◌==◌, if◌then◌else◌}
use Rattle.std.specs.List.{AllByRecursion}
use Rattle.std.specs.List.Sorted.{IsPermutation, IsNonDecreasingBy}
use Rattle.std.proofs.lemmas.Bool.{leb-true, leb-false, eqb-true}
use Rattle.std.proofs.lemmas.Cmp.{nat_eq_equiv}
use Rattle.std.proofs.lemmas.List.Recursion.{is_sum_by}
use Rattle.std.proofs.lemmas.List.Sorted.{sum_by-IsPermutation}
use Rattle.client_registry.specs.Live.{in_order, insert_in_order}

-- how often a number stands in a list
abbrev one : ℕ → ℕ → ℕ
one q x = if x == q then 1 else 0

abbrev times : ℕ → List ℕ → ℕ
times q [] = 0
times q (x ∷ xs) = one q x + times q xs

-- no number is above one after it
abbrev IsUp : List ℕ → Type 0
IsUp [] = Unit {0}
IsUp (x ∷ xs) = AllByRecursion (λ y. x ≤ y) xs × IsUp xs

times-permutation : (q : ℕ) (xs ys : List ℕ) → IsPermutation xs ys → times q ys ≡ times q xs
times-permutation q xs ys h =
    is_sum_by (times q) (one q) refl (λ x rest. refl) ys ∙ sum_by-IsPermutation (one q) xs ys h ∙ sym (is_sum_by (times q) (one q) refl (λ x rest. refl) xs)

times-insert : (q n : ℕ) (xs : List ℕ) → times q (insert_in_order n xs) ≡ one q n + times q xs
times-insert q n [] = refl
times-insert q n (x ∷ xs) = by (nat_le n x) (times-insert q n xs)
  where
    by : (b : Bool) → times q (insert_in_order n xs) ≡ one q n + times q xs → times q (if b then n ∷ x ∷ xs else x ∷ insert_in_order n xs) ≡ one q n + (one q x + times q xs)
    by true h = refl
    by false h = omega (arith, h)

times-in_order : (q : ℕ) (xs : List ℕ) → times q (in_order xs) ≡ times q xs
times-in_order q [] = refl
times-in_order q (x ∷ xs) = times-insert q x (in_order xs) ∙ ap (λ (k : ℕ). one q x + k) (times-in_order q xs)

all_below : (n m : ℕ) (xs : List ℕ) → n ≤ m → AllByRecursion (λ y. m ≤ y) xs → AllByRecursion (λ y. n ≤ y) xs
all_below n m [] le all = tt
all_below n m (x ∷ xs) le all = (omega (arith, le, all.0), all_below n m xs le all.1)

all_insert : (m n : ℕ) (xs : List ℕ) → m ≤ n → AllByRecursion (λ y. m ≤ y) xs → AllByRecursion (λ y. m ≤ y) (insert_in_order n xs)
all_insert m n [] le all = (le, tt)
all_insert m n (x ∷ xs) le all = by (nat_le n x) (all_insert m n xs le all.1)
  where
    by : (b : Bool) → AllByRecursion (λ y. m ≤ y) (insert_in_order n xs) → AllByRecursion (λ y. m ≤ y) (if b then n ∷ x ∷ xs else x ∷ insert_in_order n xs)
    by true h = (le, all)
    by false h = (all.0, h)

IsUp-insert : (n : ℕ) (xs : List ℕ) → IsUp xs → IsUp (insert_in_order n xs)
IsUp-insert n [] up = (tt, tt)
IsUp-insert n (x ∷ xs) up = by (nat_le n x) refl (IsUp-insert n xs up.1)
  where
    by : (b : Bool) → nat_le n x ≡ b → IsUp (insert_in_order n xs) → IsUp (if b then n ∷ x ∷ xs else x ∷ insert_in_order n xs)
    by true e h = let le : n ≤ x = leb-true n x e in ((le, all_below n x xs le up.0), up)
    by false e h = let lt : x < n = leb-false n x e in (all_insert x n xs (omega (arith, lt)) up.0, h)

IsUp-in_order : (xs : List ℕ) → IsUp (in_order xs)
IsUp-in_order [] = tt
IsUp-in_order (x ∷ xs) = IsUp-insert x (in_order xs) (IsUp-in_order xs)

own : (q : ℕ) (xs : List ℕ) → 0 < times q (q ∷ xs)
own q xs = by (q == q) (nat_eq_equiv.refl q)
  where
    by : (b : Bool) → b ≡ true → 0 < (if b then 1 else 0) + times q xs
    by true e = omega arith
    by false e = absurd cc

-- a number that stands in a list is at least what each of its numbers is at least
bound : (q m : ℕ) (xs : List ℕ) → 0 < times q xs → AllByRecursion (λ y. m ≤ y) xs → m ≤ q
bound q m [] some all = absurd (omega arith)
bound q m (x ∷ xs) some all = by (x == q) refl some (λ h. bound q m xs h all.1)
  where
    by : (b : Bool) → (x == q) ≡ b → 0 < (if b then 1 else 0) + times q xs → (0 < times q xs → m ≤ q) → m ≤ q
    by true e h later = subst (λ (k : ℕ). m ≤ k) (eqb-true x q e) all.0
    by false e h later = later (omega (arith, h))

same_up : (xs ys : List ℕ) → IsUp xs → IsUp ys → ((q : ℕ) → times q xs ≡ times q ys) → xs ≡ ys
same_up [] [] a b same = refl
same_up [] (y ∷ ys) a b same = absurd (omega (arith, same y, own y ys))
same_up (x ∷ xs) [] a b same = absurd (omega (arith, same x, own x xs))
same_up (x ∷ xs) (y ∷ ys) a b same = λ i. heads i ∷ same_up xs ys a.1 b.1 tails i
  where
    y_least : y ≤ x
    y_least = bound x y (y ∷ ys) (omega (arith, same x, own x xs)) (omega arith, b.0)

    x_least : x ≤ y
    x_least = bound y x (x ∷ xs) (omega (arith, same y, own y ys)) (omega arith, a.0)

    heads : x ≡ y
    heads = omega (arith, x_least, y_least)

    tails : (q : ℕ) → times q xs ≡ times q ys
    tails q = let front : one q x ≡ one q y = ap (one q) heads in omega (arith, same q, front)

all_from : (x : ℕ) (xs : List ℕ) → ((j : ℕ) (d : ℕ) → j < length xs → x ≤ get_or xs j d) → AllByRecursion (λ y. x ≤ y) xs
all_from x [] all = tt
all_from x (y ∷ ys) all = (all 0 0 (omega arith), all_from x ys (λ j d lt. all (suc j) d (omega (arith, lt))))

IsUp-from_sorted : (xs : List ℕ) → IsNonDecreasingBy (λ (x : ℕ). x) xs → IsUp xs
IsUp-from_sorted [] up = tt
IsUp-from_sorted (x ∷ xs) up =
    (all_from x xs (λ j d lt. up 0 (suc j) d (omega arith) (omega (arith, lt))), IsUp-from_sorted xs (λ i j d le lt. up (suc i) (suc j) d (omega (arith, le)) (omega (arith, lt))))

-- what a sort makes of numbers is in_order of them
pub sorted_is-in_order : (xs ys : List ℕ) → IsPermutation xs ys → IsNonDecreasingBy (λ (x : ℕ). x) ys → ys ≡ in_order xs
sorted_is-in_order xs ys moved up =
    same_up ys (in_order xs) (IsUp-from_sorted ys up) (IsUp-in_order xs) (λ q. times-permutation q xs ys moved ∙ sym (times-in_order q xs))
