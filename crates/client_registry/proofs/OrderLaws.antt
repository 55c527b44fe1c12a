-- Numbers without repeats: put in order they rise, and which ones there are decides the list.
use Rattle.std.proofs.Common.{◌≡◌, ℕ, suc, ◌+◌, ◌<◌, ◌≤◌, Bool, true, false, cond, ◌||◌, ◌&&◌, inl, inr, List, [], ◌∷◌, ◌++◌, length, get_or, map, filter, refl, sym, ap, ◌∙◌, subst, arith, eqb-true, nat_le, nat_eq}
use Rattle.std.specs.Prelude.{◌==◌, if◌then◌else◌, sum_by, IsPermutation}
use Rattle.std.specs.List.Sorted.{IsNonDecreasing}
use Rattle.std.proofs.lemmas.List.Sums.{sum_by-cons}
use Rattle.std.proofs.lemmas.List.Sorted.{sum_by-IsPermutation}
use Rattle.std.specs.List.{IsDistinct, AllByRecursion}
use Rattle.std.proofs.lemmas.Bool.{true≢false, eqb-false, leb-true, leb-false, or_cases, cases_Bool}
use Rattle.std.proofs.lemmas.Cmp.{nat_eq_equiv}
use Rattle.std.proofs.lemmas.List.Folds.{list_any-append}
use Rattle.client_registry.proofs.LiveLaws.{among}
use Rattle.client_registry.specs.Live.{in_order, insert_in_order}

-- each number stands once
abbrev pub AreApart : List ℕ → Type 0
AreApart [] = Unit {0}
AreApart (x ∷ xs) = (among x xs ≡ false) × AreApart xs

-- each number is below those after it
abbrev pub IsRising : List ℕ → Type 0
IsRising [] = Unit {0}
IsRising (x ∷ xs) = ((q : ℕ) → among q xs ≡ true → x < q) × IsRising xs

or_true : (x y : Bool) → y ≡ true → (x || y) ≡ true
or_true true y e = refl
or_true false y e = e

or_none : (x y : Bool) → x ≡ false → y ≡ false → (x || y) ≡ false
or_none x y e f = ap (λ b. b || y) e ∙ f

or_both : (x y : Bool) → (x || y) ≡ false → (x ≡ false) × (y ≡ false)
or_both true y e = absurd (true≢false e)
or_both false y e = (refl, e)

or_swap : (x y z : Bool) → (x || (y || z)) ≡ (y || (x || z))
or_swap true true z = refl
or_swap true false z = refl
or_swap false y z = refl

-- Apart.

-- from the library's word for it
pub AreApart-from_IsDistinct : (xs : List ℕ) → IsDistinct nat_eq xs → AreApart xs
unfolding IsDistinct
AreApart-from_IsDistinct [] d = tt
AreApart-from_IsDistinct (x ∷ xs) d = (none xs d.0, AreApart-from_IsDistinct xs d.1)
  where
    none : (ys : List ℕ) → AllByRecursion (λ y. nat_eq x y ≡ false) ys → among x ys ≡ false
    none [] all = refl
    none (y ∷ ys) all = or_none (y == x) (among x ys) (nat_eq_equiv.symm y x ∙ all.0) (none ys all.1)

pub AreApart-push : (xs : List ℕ) (x : ℕ) → AreApart xs → among x xs ≡ false → AreApart (xs ++ x ∷ [])
AreApart-push [] x apart new = (refl, tt)
AreApart-push (y ∷ ys) x apart new =
    let parts = or_both (y == x) (among x ys) new in (
      list_any-append (λ z. z == y) ys (x ∷ []) ∙ or_none (among y ys) (x == y || false) apart.0 (or_none (x == y) false (nat_eq_equiv.symm x y ∙ parts.0) refl),
      AreApart-push ys x apart.1 parts.1,
    )

among-filter_false : (p : ℕ → Bool) (x : ℕ) (xs : List ℕ) → among x xs ≡ false → among x (filter p xs) ≡ false
among-filter_false p x [] new = refl
among-filter_false p x (y ∷ ys) new = by (p y) (among-filter_false p x ys (or_both (y == x) (among x ys) new).1)
  where
    by : (b : Bool) → among x (filter p ys) ≡ false → among x (cond b (y ∷ filter p ys) (filter p ys)) ≡ false
    by true h = or_none (y == x) (among x (filter p ys)) (or_both (y == x) (among x ys) new).0 h
    by false h = h

pub AreApart-filter : (p : ℕ → Bool) (xs : List ℕ) → AreApart xs → AreApart (filter p xs)
AreApart-filter p [] apart = tt
AreApart-filter p (x ∷ xs) apart = by (p x) (AreApart-filter p xs apart.1)
  where
    by : (b : Bool) → AreApart (filter p xs) → AreApart (cond b (x ∷ filter p xs) (filter p xs))
    by true h = (among-filter_false p x xs apart.0, h)
    by false h = h

-- the same of a filter before a map
among-map_filter : {A : Type 0} (f : A → ℕ) (p : A → Bool) (x : ℕ) (xs : List A) → among x (map f xs) ≡ false → among x (map f (filter p xs)) ≡ false
among-map_filter f p x [] new = refl
among-map_filter f p x (y ∷ ys) new = by (p y) (among-map_filter f p x ys (or_both (f y == x) (among x (map f ys)) new).1)
  where
    by : (b : Bool) → among x (map f (filter p ys)) ≡ false → among x (map f (cond b (y ∷ filter p ys) (filter p ys))) ≡ false
    by true h = or_none (f y == x) (among x (map f (filter p ys))) (or_both (f y == x) (among x (map f ys)) new).0 h
    by false h = h

pub AreApart-map_filter : {A : Type 0} (f : A → ℕ) (p : A → Bool) (xs : List A) → AreApart (map f xs) → AreApart (map f (filter p xs))
AreApart-map_filter f p [] apart = tt
AreApart-map_filter f p (x ∷ xs) apart = by (p x) (AreApart-map_filter f p xs apart.1)
  where
    by : (b : Bool) → AreApart (map f (filter p xs)) → AreApart (map f (cond b (x ∷ filter p xs) (filter p xs)))
    by true h = (among-map_filter f p (f x) xs apart.0, h)
    by false h = h

-- a number is among those that pass where it passes and is among all
pub among-filter : (p : ℕ → Bool) (x : ℕ) (xs : List ℕ) → among x (filter p xs) ≡ (p x && among x xs)
among-filter p x [] = by (p x)
  where
    by : (b : Bool) → false ≡ (b && false)
    by true = refl
    by false = refl
among-filter p x (y ∷ ys) = by (p y) (y == x) (p x) refl refl refl (among-filter p x ys)
  where
    by : (py e px : Bool) → p y ≡ py → (y == x) ≡ e → p x ≡ px → among x (filter p ys) ≡ (px && among x ys)
        → among x (cond py (y ∷ filter p ys) (filter p ys)) ≡ (px && (e || among x ys))
    by true true true a b c h = ap (λ t. t || among x (filter p ys)) b
    by true true false a b c h = absurd (true≢false (sym a ∙ ap p (eqb-true y x b) ∙ c))
    by true false true a b c h = ap (λ t. t || among x (filter p ys)) b ∙ h
    by true false false a b c h = ap (λ t. t || among x (filter p ys)) b ∙ h
    by false true true a b c h = absurd (true≢false (sym c ∙ sym (ap p (eqb-true y x b)) ∙ a))
    by false true false a b c h = h
    by false false true a b c h = h
    by false false false a b c h = h

-- In order.

among-insert_in_order : (q n : ℕ) (xs : List ℕ) → among q (insert_in_order n xs) ≡ ((n == q) || among q xs)
among-insert_in_order q n [] = refl
among-insert_in_order q n (x ∷ xs) = by (nat_le n x) (among-insert_in_order q n xs)
  where
    by : (b : Bool) → among q (insert_in_order n xs) ≡ ((n == q) || among q xs) → among q (if b then n ∷ x ∷ xs else x ∷ insert_in_order n xs) ≡ ((n == q) || ((x == q) || among q xs))
    by true h = refl
    by false h = ap (λ b. (x == q) || b) h ∙ or_swap (x == q) (n == q) (among q xs)

pub among-in_order : (q : ℕ) (xs : List ℕ) → among q (in_order xs) ≡ among q xs
among-in_order q [] = refl
among-in_order q (x ∷ xs) = among-insert_in_order q x (in_order xs) ∙ ap (λ b. (x == q) || b) (among-in_order q xs)

IsRising-insert : (n : ℕ) (xs : List ℕ) → IsRising xs → among n xs ≡ false → IsRising (insert_in_order n xs)
IsRising-insert n [] rising new = ((λ q e. absurd (true≢false (sym e))), tt)
IsRising-insert n (x ∷ xs) rising new = by (nat_le n x) refl (IsRising-insert n xs rising.1 (or_both (x == n) (among n xs) new).1)
  where
    differ : x ≡ n → ⊥
    differ = eqb-false x n (or_both (x == n) (among n xs) new).0

    above : n ≤ x → (q : ℕ) → among q (x ∷ xs) ≡ true → n < q
    above le q e = elim (or_cases (x == q) (among q xs) e) [
      | inl same ↦ (let here : x ≡ q = eqb-true x q same in let other : n ≡ x → ⊥ = λ h. differ (sym h) in omega arith)
      | inr later ↦ (let lt : x < q = rising.0 q later in omega arith)
    ]

    below : x < n → (q : ℕ) → among q (insert_in_order n xs) ≡ true → x < q
    below lt q e = elim (or_cases (n == q) (among q xs) (sym (among-insert_in_order q n xs) ∙ e)) [
      | inl same ↦ (let here : n ≡ q = eqb-true n q same in omega arith)
      | inr later ↦ rising.0 q later
    ]

    by : (b : Bool) → nat_le n x ≡ b → IsRising (insert_in_order n xs) → IsRising (if b then n ∷ x ∷ xs else x ∷ insert_in_order n xs)
    by true e h = (above (leb-true n x e), rising)
    by false e h = (below (leb-false n x e), h)

-- numbers without repeats rise when they are put in order
pub IsRising-in_order : (xs : List ℕ) → AreApart xs → IsRising (in_order xs)
IsRising-in_order [] apart = tt
IsRising-in_order (x ∷ xs) apart = IsRising-insert x (in_order xs) (IsRising-in_order xs apart.1) (among-in_order x xs ∙ apart.0)

-- rising numbers are determined by which there are
same_rising : (xs ys : List ℕ) → IsRising xs → IsRising ys → ((q : ℕ) → among q xs ≡ among q ys) → xs ≡ ys
same_rising [] [] a b same = refl
same_rising [] (y ∷ ys) a b same = absurd (true≢false (sym (same y ∙ ap (λ t. t || among y ys) (nat_eq_equiv.refl y))))
same_rising (x ∷ xs) [] a b same = absurd (true≢false (sym (ap (λ t. t || among x xs) (nat_eq_equiv.refl x)) ∙ same x))
same_rising (x ∷ xs) (y ∷ ys) a b same = λ i. heads i ∷ same_rising xs ys a.1 b.1 tails i
  where
    x_there : (y == x || among x ys) ≡ true
    x_there = sym (same x) ∙ ap (λ t. t || among x xs) (nat_eq_equiv.refl x)

    y_there : (x == y || among y xs) ≡ true
    y_there = same y ∙ ap (λ t. t || among y ys) (nat_eq_equiv.refl y)

    heads : x ≡ y
    heads = elim (or_cases (y == x) (among x ys) x_there) [
      | inl e ↦ sym (eqb-true y x e)
      | inr later ↦ (elim (or_cases (x == y) (among y xs) y_there) [
        | inl e ↦ eqb-true x y e
        | inr also ↦ (let up : y < x = b.0 x later in let down : x < y = a.0 y also in absurd (omega arith))
      ])
    ]

    none : (z : ℕ) (zs : List ℕ) → ((q : ℕ) → among q zs ≡ true → z < q) → among z zs ≡ false
    none z zs rising = elim (cases_Bool (among z zs)) [ inl e ↦ (let lt : z < z = rising z e in absurd (omega arith)) | inr e ↦ e ]

    tails : (q : ℕ) → among q xs ≡ among q ys
    tails q = by (x == q) refl
      where
        by : (t : Bool) → (x == q) ≡ t → among q xs ≡ among q ys
        by true e =
            let here : x ≡ q = eqb-true x q e in
            subst (λ z. among z xs ≡ false) here (none x xs a.0) ∙ sym (subst (λ z. among z ys ≡ false) (sym heads ∙ here) (none y ys b.0))
        by false e = ap (λ t. t || among q xs) (sym e) ∙ same q ∙ ap (λ t. t || among q ys) (ap (λ z. z == q) (sym heads) ∙ e)

-- so which numbers there are decides their order, where none is repeated
pub in_order-same : (xs ys : List ℕ) → AreApart xs → AreApart ys → ((q : ℕ) → among q xs ≡ among q ys) → in_order xs ≡ in_order ys
in_order-same xs ys a b same =
    same_rising (in_order xs) (in_order ys) (IsRising-in_order xs a) (IsRising-in_order ys b) (λ q. among-in_order q xs ∙ same q ∙ sym (among-in_order q ys))

-- Sorted.

-- how often a number stands there
abbrev pub times : ℕ → List ℕ → ℕ
times q xs = sum_by (λ x. cond (x == q) 1 0) xs

-- no number is above one after it
abbrev pub IsClimbing : List ℕ → Type 0
IsClimbing [] = Unit {0}
IsClimbing (x ∷ xs) = ((q : ℕ) → among q xs ≡ true → x ≤ q) × IsClimbing xs

times-insert_in_order : (q n : ℕ) (xs : List ℕ) → times q (insert_in_order n xs) ≡ cond (n == q) 1 0 + times q xs
times-insert_in_order q n [] = sum_by-cons (λ x. cond (x == q) 1 0) n []
times-insert_in_order q n (x ∷ xs) = by (nat_le n x) (times-insert_in_order q n xs)
  where
    by : (b : Bool) → times q (insert_in_order n xs) ≡ cond (n == q) 1 0 + times q xs → times q (if b then n ∷ x ∷ xs else x ∷ insert_in_order n xs) ≡ cond (n == q) 1 0 + times q (x ∷ xs)
    by true h = sum_by-cons (λ y. cond (y == q) 1 0) n (x ∷ xs)
    by false h = omega (arith, h, sum_by-cons (λ y. cond (y == q) 1 0) x (insert_in_order n xs), sum_by-cons (λ y. cond (y == q) 1 0) x xs)

times-in_order : (q : ℕ) (xs : List ℕ) → times q (in_order xs) ≡ times q xs
times-in_order q [] = refl
times-in_order q (x ∷ xs) = omega (arith, times-insert_in_order q x (in_order xs), times-in_order q xs, sum_by-cons (λ y. cond (y == q) 1 0) x xs)

IsClimbing-insert : (n : ℕ) (xs : List ℕ) → IsClimbing xs → IsClimbing (insert_in_order n xs)
IsClimbing-insert n [] climbs = ((λ q e. absurd (true≢false (sym e))), tt)
IsClimbing-insert n (x ∷ xs) climbs = by (nat_le n x) refl (IsClimbing-insert n xs climbs.1)
  where
    above : n ≤ x → (q : ℕ) → among q (x ∷ xs) ≡ true → n ≤ q
    above le q e = elim (or_cases (x == q) (among q xs) e) [
      | inl same ↦ (let here : x ≡ q = eqb-true x q same in omega arith)
      | inr later ↦ (let up : x ≤ q = climbs.0 q later in omega arith)
    ]

    below : x < n → (q : ℕ) → among q (insert_in_order n xs) ≡ true → x ≤ q
    below lt q e = elim (or_cases (n == q) (among q xs) (sym (among-insert_in_order q n xs) ∙ e)) [
      | inl same ↦ (let here : n ≡ q = eqb-true n q same in omega arith)
      | inr later ↦ climbs.0 q later
    ]

    by : (b : Bool) → nat_le n x ≡ b → IsClimbing (insert_in_order n xs) → IsClimbing (if b then n ∷ x ∷ xs else x ∷ insert_in_order n xs)
    by true e h = (above (leb-true n x e), climbs)
    by false e h = (below (leb-false n x e), h)

IsClimbing-in_order : (xs : List ℕ) → IsClimbing (in_order xs)
IsClimbing-in_order [] = tt
IsClimbing-in_order (x ∷ xs) = IsClimbing-insert x (in_order xs) (IsClimbing-in_order xs)

-- a number that is not among them stands there no time
times-none : (q : ℕ) (xs : List ℕ) → among q xs ≡ false → times q xs ≡ 0
times-none q [] h = refl
times-none q (x ∷ xs) h =
    let parts = or_both (x == q) (among q xs) h in
    sum_by-cons (λ y. cond (y == q) 1 0) x xs ∙ (λ i. cond (parts.0 i) 1 0 + times-none q xs parts.1 i)

among-from_times : (q : ℕ) (xs : List ℕ) → 1 ≤ times q xs → among q xs ≡ true
among-from_times q xs h = elim (cases_Bool (among q xs)) [ inl e ↦ e | inr e ↦ absurd (omega (arith, h, times-none q xs e)) ]

times-head : (x : ℕ) (xs : List ℕ) → 1 ≤ times x (x ∷ xs)
times-head x xs =
    let one : cond (x == x) 1 0 ≡ 1 = ap (λ b. cond {A = ℕ} b 1 0) (nat_eq_equiv.refl x) in
    omega (arith, sum_by-cons (λ y. cond (y == x) 1 0) x xs, one)

-- climbing numbers are determined by how often each stands there
same_climbing : (xs ys : List ℕ) → IsClimbing xs → IsClimbing ys → ((q : ℕ) → times q xs ≡ times q ys) → xs ≡ ys
same_climbing [] [] a b same = refl
same_climbing [] (y ∷ ys) a b same = absurd (omega (arith, same y, times-head y ys))
same_climbing (x ∷ xs) [] a b same = absurd (omega (arith, same x, times-head x xs))
same_climbing (x ∷ xs) (y ∷ ys) a b same = λ i. heads i ∷ same_climbing xs ys a.1 b.1 tails i
  where
    heads : x ≡ y
    heads = elim (or_cases (y == x) (among x ys) (among-from_times x (y ∷ ys) (omega (arith, same x, times-head x xs)))) [
      | inl e ↦ sym (eqb-true y x e)
      | inr later ↦ (elim (or_cases (x == y) (among y xs) (among-from_times y (x ∷ xs) (omega (arith, same y, times-head y ys)))) [
        | inl e ↦ eqb-true x y e
        | inr also ↦ (let up : y ≤ x = b.0 x later in let down : x ≤ y = a.0 y also in omega arith)
      ])
    ]

    tails : (q : ℕ) → times q xs ≡ times q ys
    tails q =
        let alike : cond (x == q) 1 0 ≡ cond (y == q) 1 0 = ap (λ z. cond {A = ℕ} (z == q) 1 0) heads in
        omega (arith, same q, sum_by-cons (λ z. cond (z == q) 1 0) x xs, sum_by-cons (λ z. cond (z == q) 1 0) y ys, alike)

-- a number that is among them stands at some place
among-place : (q : ℕ) (xs : List ℕ) → among q xs ≡ true → (k : ℕ) × (k < length xs) × (get_or xs k 0 ≡ q)
among-place q [] h = absurd (true≢false (sym h))
among-place q (x ∷ xs) h = elim (or_cases (x == q) (among q xs) h) [
  | inl same ↦ (0, omega arith, eqb-true x q same)
  | inr later ↦ (let place = among-place q xs later in (suc place.0, omega (arith, place.1), place.2))
]

-- numbers that don't fall climb
IsClimbing-from_order : (xs : List ℕ) → IsNonDecreasing xs → IsClimbing xs
IsClimbing-from_order [] up = tt
IsClimbing-from_order (x ∷ xs) up = (
  (λ q h. let place = among-place q xs h in subst (λ z. x ≤ z) place.2 (up 0 (suc place.0) 0 (omega arith) (omega (arith, place.1)))),
  IsClimbing-from_order xs (λ i j d le lt. up (suc i) (suc j) d (omega (arith, le)) (omega (arith, lt))),
)

-- the same numbers, none of them below one before it, are the numbers in order; a sort gives both
pub in_order-sorted : (xs ys : List ℕ) → IsPermutation xs ys → IsNonDecreasing ys → ys ≡ in_order xs
in_order-sorted xs ys same up =
    same_climbing ys (in_order xs) (IsClimbing-from_order ys up) (IsClimbing-in_order xs)
    (λ q. sum_by-IsPermutation (λ x. cond (x == q) 1 0) xs ys same ∙ sym (times-in_order q xs))
