-- What lists of numbers have the same members, and tests by members.
use Rattle.std.proofs.Common.{◌≡◌, ℕ, zero, suc, ◌≤◌, ◌<◌, Bool, true, false, cond, not, ◌||◌, ◌&&◌, inl, inr, List, [], ◌∷◌, ◌++◌, length, filter, get_or, refl, sym, ap, ◌∙◌, arith}
use Rattle.std.specs.Prelude.{nat_eq, Result, Ok, Err, MatchResult, is_ok}
use Rattle.std.specs.List.{list_any}
use Rattle.std.proofs.lemmas.Bool.{true≢false, cases_lt, eqb-true, eq-eqb, ne_eqb}
use Rattle.std.proofs.lemmas.List.Folds.{list_any-append}

or_true : (b : Bool) → (b || true) ≡ true
or_true true = refl
or_true false = refl

-- a test that an element passes
list_any-at : {X : Type 0} (p : X → Bool) (xs : List X) (i : ℕ) (d : X) → i < length xs → p (get_or xs i d) ≡ true → list_any p xs ≡ true
list_any-at p [] i d within h = absurd (omega (arith, within))
list_any-at p (x ∷ xs) zero d within h = ap (λ b. b || list_any p xs) h
list_any-at p (x ∷ xs) (suc i) d within h = ap (λ b. p x || b) (list_any-at p xs i d (omega (arith, within)) h) ∙ or_true (p x)

none_among : (xs : List ℕ) (x : ℕ) → ((k : ℕ) → k < length xs → get_or xs k 0 ≡ x → ⊥) → list_any (nat_eq x) xs ≡ false
none_among [] x none = refl
none_among (y ∷ ys) x none =
    ap (λ b. b || list_any (nat_eq x) ys) (ne_eqb x y (λ e. none 0 (omega arith) (sym e))) ∙ none_among ys x (λ k lt. none (suc k) (omega (arith, lt)))

-- what a search in rising numbers found
pub found_among : (xs : List ℕ) (x : ℕ) (r : Result ℕ ℕ)
    → MatchResult r (λ i. (i < length xs) × (get_or xs i 0 ≡ x)) (λ i. (i ≤ length xs) × ((k : ℕ) → k < i → get_or xs k 0 < x) × ((k : ℕ) → i ≤ k → k < length xs → x < get_or xs k 0))
    → is_ok r ≡ list_any (nat_eq x) xs
found_among xs x (Ok i) h = sym (list_any-at (nat_eq x) xs i 0 h.0 (eq-eqb x (get_or xs i 0) (sym h.1)))
found_among xs x (Err i) h = sym (none_among xs x differ)
  where
    differ : (k : ℕ) → k < length xs → get_or xs k 0 ≡ x → ⊥
    differ k lt e =
        elim (cases_lt k i) [ inl below ↦ omega (arith, h.1 k below, e) | inr above ↦ omega (arith, h.2 k above lt, e) ]

-- a member that passes a test
any_at_member : (q : ℕ → Bool) (x : ℕ) (ys : List ℕ) → list_any (nat_eq x) ys ≡ true → q x ≡ true → list_any q ys ≡ true
any_at_member q x [] here h = absurd (true≢false (sym here))
any_at_member q x (y ∷ ys) here h = by (nat_eq x y) refl here (λ e. any_at_member q x ys e h)
  where
    by : (b : Bool) → nat_eq x y ≡ b → (b || list_any (nat_eq x) ys) ≡ true → (list_any (nat_eq x) ys ≡ true → list_any q ys ≡ true) → (q y || list_any q ys) ≡ true
    by true same e rest = ap (λ b. b || list_any q ys) (ap q (sym (eqb-true x y same)) ∙ h)
    by false other e rest = ap (λ b. q y || b) (rest e) ∙ or_true (q y)

any_along : (q : ℕ → Bool) (xs ys : List ℕ) → ((m : ℕ) → list_any (nat_eq m) xs ≡ true → list_any (nat_eq m) ys ≡ true) → list_any q xs ≡ true → list_any q ys ≡ true
any_along q [] ys along h = absurd (true≢false (sym h))
any_along q (x ∷ xs) ys along h = by (q x) refl h (any_along q xs ys (λ m here. along m (ap (λ b. nat_eq m x || b) here ∙ or_true (nat_eq m x))))
  where
    by : (b : Bool) → q x ≡ b → (b || list_any q xs) ≡ true → (list_any q xs ≡ true → list_any q ys ≡ true) → list_any q ys ≡ true
    by true passes e rest = any_at_member q x ys (along x (ap (λ b. b || list_any (nat_eq x) xs) (eq-eqb x x refl))) passes
    by false fails e rest = rest e

same_truth : (a b : Bool) → (a ≡ true → b ≡ true) → (b ≡ true → a ≡ true) → a ≡ b
same_truth true b there back = sym (there refl)
same_truth false true there back = back refl
same_truth false false there back = refl

-- lists with the same members pass a test alike
pub any_by_members : (q : ℕ → Bool) (xs ys : List ℕ) → ((m : ℕ) → list_any (nat_eq m) xs ≡ list_any (nat_eq m) ys) → list_any q xs ≡ list_any q ys
any_by_members q xs ys same =
    same_truth (list_any q xs) (list_any q ys) (any_along q xs ys (λ m h. sym (same m) ∙ h)) (any_along q ys xs (λ m h. same m ∙ h))

never : (b : Bool) → (b && false) ≡ false
never true = refl
never false = refl

module _ (others : List ℕ) (m : ℕ) where
  -- a number among those of a list that aren't among others
  among_rest : (xs : List ℕ) → list_any (nat_eq m) (filter (λ n. not (list_any (nat_eq n) others)) xs) ≡ (list_any (nat_eq m) xs && not (list_any (nat_eq m) others))
  among_rest [] = refl
  among_rest (x ∷ xs) = by (list_any (nat_eq x) others) (nat_eq m x) refl refl (among_rest xs)
    where
      rest : List ℕ
      rest = filter (λ n. not (list_any (nat_eq n) others)) xs

      by : (a b : Bool) → list_any (nat_eq x) others ≡ a → nat_eq m x ≡ b → list_any (nat_eq m) rest ≡ (list_any (nat_eq m) xs && not (list_any (nat_eq m) others))
          → list_any (nat_eq m) (cond (not a) (x ∷ rest) rest) ≡ ((b || list_any (nat_eq m) xs) && not (list_any (nat_eq m) others))
      by true true is same h =
          let there : list_any (nat_eq m) others ≡ true = ap (λ y. list_any (nat_eq y) others) (eqb-true m x same) ∙ is in
          h ∙ ap (λ c. list_any (nat_eq m) xs && not c) there ∙ never (list_any (nat_eq m) xs) ∙ sym (ap (λ c. true && not c) there)
      by true false is other h = h
      by false true is same h =
          let absent : list_any (nat_eq m) others ≡ false = ap (λ y. list_any (nat_eq y) others) (eqb-true m x same) ∙ is in
          ap (λ b. b || list_any (nat_eq m) rest) same ∙ sym (ap (λ c. true && not c) absent)
      by false false is other h = ap (λ b. b || list_any (nat_eq m) rest) other ∙ h

either : (a b : Bool) → (a || (b && not a)) ≡ (b || a)
either true true = refl
either true false = refl
either false true = refl
either false false = refl

-- others, and after them those of xs that aren't among them, have the members of both
pub any_merged : (q : ℕ → Bool) (others xs : List ℕ) → list_any q (others ++ filter (λ n. not (list_any (nat_eq n) others)) xs) ≡ (list_any q xs || list_any q others)
any_merged q others xs =
    any_by_members q (others ++ filter (λ n. not (list_any (nat_eq n) others)) xs) (xs ++ others) members ∙ list_any-append q xs others
  where
    members : (m : ℕ) → list_any (nat_eq m) (others ++ filter (λ n. not (list_any (nat_eq n) others)) xs) ≡ list_any (nat_eq m) (xs ++ others)
    members m =
        list_any-append (nat_eq m) others (filter (λ n. not (list_any (nat_eq n) others)) xs)
        ∙ ap (λ b. list_any (nat_eq m) others || b) (among_rest others m xs)
        ∙ either (list_any (nat_eq m) others) (list_any (nat_eq m) xs)
        ∙ sym (list_any-append (nat_eq m) xs others)
