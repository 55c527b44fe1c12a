use Rattle.std.proofs.Common.{◌≡◌, ℕ, suc, ◌+◌, Bool, true, false, not, cond, ◌||◌, ◌&&◌, inl, inr, List, [], ◌∷◌, length, Option, None, Some, is_some, nat_lt, position, find, map, ap, refl, sym, ◌∙◌, arith}
use Rattle.std.specs.List.{list_all, list_any, position_or_len, prefix_len}
use Rattle.std.specs.Option.{option_map}
use Rattle.std.specs.Prelude.{option_and_then, slice_get}
use Rattle.std.proofs.lemmas.List.{length-map}
use Rattle.std.proofs.lemmas.Bool.{lt-ltb, le-ltb, cases_lt}

-- one more on both sides
nat_lt-suc : (n m : ℕ) → nat_lt n m ≡ nat_lt (1 + n) (suc m)
nat_lt-suc n m =
    elim (cases_lt n m) [ inl lt ↦ lt-ltb n m lt ∙ sym (lt-ltb (1 + n) (suc m) (omega arith)) | inr ge ↦ le-ltb n m ge ∙ sym (le-ltb (1 + n) (suc m) (omega arith)) ]

-- some element passes exactly where the first place that passes lies within
list_any-position_or_len : {X : Type 0} (p : X → Bool) (xs : List X) → list_any p xs ≡ nat_lt (position_or_len p xs) (length xs)
list_any-position_or_len p [] = refl
list_any-position_or_len p (x ∷ xs) =
    elim (p x) as (λ b. (b || list_any p xs) ≡ nat_lt (cond (not b) (1 + prefix_len (λ y. not (p y)) xs) 0) (suc (length xs))) [
      | true ↦ sym (lt-ltb 0 (suc (length xs)) (omega arith))
      | false ↦ list_any-position_or_len p xs ∙ nat_lt-suc (position_or_len p xs) (length xs)
    ]

is_some-cond : (b : Bool) (n : ℕ) → is_some (cond b (Some n) None) ≡ b
is_some-cond true n = refl
is_some-cond false n = refl

-- some element passes exactly where there is a first place that does
pub is_some-position : {X : Type 0} (p : X → Bool) (xs : List X) → is_some (position p xs) ≡ list_any p xs
is_some-position p xs =
    is_some-cond (nat_lt (position_or_len p xs) (length xs)) (position_or_len p xs) ∙ sym (list_any-position_or_len p xs)

prefix_len-map : {X Y : Type 0} (p : Y → Bool) (f : X → Y) (xs : List X) → prefix_len p (map f xs) ≡ prefix_len (λ x. p (f x)) xs
prefix_len-map p f [] = refl
prefix_len-map p f (x ∷ xs) = ap (λ n. cond (p (f x)) (1 + n) 0) (prefix_len-map p f xs)

-- the first place in a mapped list
pub position-map : {X Y : Type 0} (p : Y → Bool) (f : X → Y) (xs : List X) → position p (map f xs) ≡ position (λ x. p (f x)) xs
position-map p f xs =
    λ i. cond (nat_lt (prefix_len-map (λ y. not (p y)) f xs i) (length-map xs f i)) (Some (prefix_len-map (λ y. not (p y)) f xs i)) None

-- the first place that passes: the first element's, or one further than among the others
pub position-cons : {X : Type 0} (p : X → Bool) (y : X) (ys : List X) → position p (y ∷ ys) ≡ cond (p y) (Some 0) (option_map (λ n. suc n) (position p ys))
position-cons p y ys = by (p y)
  where
    n : ℕ
    n = position_or_len p ys

    at : Bool → ℕ → Option ℕ
    at b k = cond b (Some k) None

    next : 1 + n ≡ suc n
    next = omega arith

    by : (b : Bool) → cond (nat_lt (cond (not b) (1 + n) 0) (suc (length ys))) (Some (cond (not b) (1 + n) 0)) None ≡ cond b (Some 0) (option_map (λ k. suc k) (position p ys))
    by true = ap (λ b. at b 0) (lt-ltb 0 (suc (length ys)) (omega arith))
    by false =
        elim (cases_lt n (length ys)) [
          | inl lt ↦ ap (λ b. at b (1 + n)) (lt-ltb (1 + n) (suc (length ys)) (omega arith)) ∙ ap (λ k. at true k) next ∙ sym (ap (λ b. option_map (λ k. suc k) (at b n)) (lt-ltb n (length ys) lt))
          | inr ge ↦ ap (λ b. at b (1 + n)) (le-ltb (1 + n) (suc (length ys)) (omega arith)) ∙ sym (ap (λ b. option_map (λ k. suc k) (at b n)) (le-ltb n (length ys) ge))
        ]

-- the first element that passes is the one at the first place that does
pub found_at_place : {X : Type 0} (p : X → Bool) (xs : List X) → find p xs ≡ option_and_then (slice_get xs) (position p xs)
found_at_place p [] = refl
found_at_place p (y ∷ ys) = by (p y) (position p ys) (found_at_place p ys) ∙ sym (ap (option_and_then (slice_get (y ∷ ys))) (position-cons p y ys))
  where
    by : (b : Bool) (o : Option ℕ) → find p ys ≡ option_and_then (slice_get ys) o → cond b (Some y) (find p ys) ≡ option_and_then (slice_get (y ∷ ys)) (cond b (Some 0) (option_map (λ n. suc n) o))
    by true o h = refl
    by false None h = h
    by false (Some n) h = h

-- where no element fails a test, all pass it
pub all_pass : {X : Type 0} (p : X → Bool) (xs : List X) → position (λ x. not (p x)) xs ≡ None → list_all p xs ≡ true
all_pass p [] none = refl
all_pass p (x ∷ xs) none = by (p x) (position (λ y. not (p y)) xs) (sym (position-cons (λ y. not (p y)) x xs) ∙ none) (all_pass p xs)
  where
    by : (b : Bool) (o : Option ℕ) → cond (not b) (Some 0) (option_map (λ n. suc n) o) ≡ None → (o ≡ None → list_all p xs ≡ true) → (b && list_all p xs) ≡ true
    by true None h rest = rest refl
    by true (Some n) h rest = absurd (cc)
    by false o h rest = absurd (cc)
