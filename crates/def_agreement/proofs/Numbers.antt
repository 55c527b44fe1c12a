-- What putting numbers into a set makes of it, and taking them out.
use Rattle.std.proofs.Common.{◌≡◌, ℕ, ◌+◌, Bool, true, false, not, ◌||◌, ◌&&◌, List, [], ◌∷◌, None, Some, cond, refl, sym, ap, ◌∙◌, subst, inl, inr, ⊎_elim, ◌⊎◌}
use Rattle.std.specs.Prelude.{Contains, bytes_eq}
use Rattle.std.specs.Cmp.Lexicographic.{same_text}
use Rattle.std.specs.FinSet as set
use Rattle.std.specs.List.{AllByRecursion, position_from}
use Rattle.std.proofs.lemmas.Bool.{true≢false, or_cases, or_left, or_right, and_parts, and_from, not-true, false_from_ne_true}
use Rattle.std.proofs.lemmas.Cmp.{nat_list_cmp_total, nat_list_eq_equiv}
use Rattle.std.proofs.lemmas.List.Elements.{All-contains, All-from_recursion}
use Rattle.std.proofs.lemmas.Map.Text.{is_eq-slice_cmp}
use Rattle.server_tables.specs.Contents.{NumberSet}
use Rattle.server_core.specs.Step.{with_numbers, without_numbers}
use Rattle.sse_frames.proofs.Sorted.{All-by_bytes}
use Rattle.sse_frames.specs.Order.{by_bytes}
use Rattle.sse_model.proofs.Members.{Contains-head, Contains-cons, Contains-nil, Contains-cases, AllByRecursion-from_members}

-- One number.

inserted : (s : NumberSet) (n q : List ℕ) → set.contains (set.insert s n) q ≡ (bytes_eq q n || set.contains s q)
inserted s n q = set.contains-insert nat_list_cmp_total s n q ∙ ap (λ b. b || set.contains s q) (is_eq-slice_cmp q n)

removed : (s : NumberSet) (n q : List ℕ) → set.contains (set.remove s n) q ≡ (not (bytes_eq q n) && set.contains s q)
removed s n q = set.contains-remove nat_list_cmp_total s n q ∙ ap (λ b. not b && set.contains s q) (is_eq-slice_cmp q n)

-- Numbers put in.

-- what was there is there
pub with_numbers-kept : (s : NumberSet) (ns : List (List ℕ)) (q : List ℕ) → set.contains s q ≡ true → set.contains (with_numbers s ns) q ≡ true
with_numbers-kept s [] q there = there
with_numbers-kept s (n ∷ ns) q there = with_numbers-kept (set.insert s n) ns q (inserted s n q ∙ or_right (bytes_eq q n) (set.contains s q) there)

-- and so is each number that is put in
pub with_numbers-there : (s : NumberSet) (ns : List (List ℕ)) (q : List ℕ) → Contains ns q → set.contains (with_numbers s ns) q ≡ true
with_numbers-there s [] q within = absurd (Contains-nil q within)
with_numbers-there s (n ∷ ns) q within =
    ⊎_elim
    (λ (same : n ≡ q).
    with_numbers-kept (set.insert s n) ns q (inserted s n q ∙ or_left (bytes_eq q n) (set.contains s q) (ap (bytes_eq q) same ∙ nat_list_eq_equiv.refl q)))
    (λ rest. with_numbers-there (set.insert s n) ns q rest) (Contains-cases n ns q within)

-- and no other
pub with_numbers-cases : (s : NumberSet) (ns : List (List ℕ)) (q : List ℕ) → set.contains (with_numbers s ns) q ≡ true → Contains ns q ⊎ (set.contains s q ≡ true)
with_numbers-cases s [] q there = inr there
with_numbers-cases s (n ∷ ns) q there =
    ⊎_elim (λ rest. inl (Contains-cons n ns q rest))
    (λ before.
    ⊎_elim (λ (same : bytes_eq q n ≡ true). inl (subst (Contains (n ∷ ns)) (sym (same_text q n (sym same))) (Contains-head n ns))) (λ old. inr old)
    (or_cases (bytes_eq q n) (set.contains s q) (sym (inserted s n q) ∙ before)))
    (with_numbers-cases (set.insert s n) ns q there)

-- Numbers taken out.

-- a number that isn't taken out stays
pub without_numbers-kept : (s : NumberSet) (ns : List (List ℕ)) (q : List ℕ) → set.contains s q ≡ true → (Contains ns q → ⊥) → set.contains (without_numbers s ns) q ≡ true
without_numbers-kept s [] q there other = there
without_numbers-kept s (n ∷ ns) q there other =
    let apart : bytes_eq q n ≡ false = false_from_ne_true (bytes_eq q n) (λ same. other (subst (Contains (n ∷ ns)) (sym (same_text q n (sym same))) (Contains-head n ns))) in
    without_numbers-kept (set.remove s n) ns q (removed s n q ∙ and_from (not (bytes_eq q n)) (set.contains s q) (ap not apart) there)
    (λ rest. other (Contains-cons n ns q rest))

-- what is there was there before, and wasn't taken out
pub without_numbers-before : (s : NumberSet) (ns : List (List ℕ)) (q : List ℕ) → set.contains (without_numbers s ns) q ≡ true → (set.contains s q ≡ true) × (Contains ns q → ⊥)
without_numbers-before s [] q there = (there, λ within. Contains-nil q within)
without_numbers-before s (n ∷ ns) q there =
    let behind = without_numbers-before (set.remove s n) ns q there in
    let parts = and_parts (not (bytes_eq q n)) (set.contains s q) (sym (removed s n q) ∙ behind.0) in (
      parts.1,
      λ within.
          ⊎_elim (λ (same : n ≡ q). true≢false (sym (ap (bytes_eq q) same ∙ nat_list_eq_equiv.refl q) ∙ not-true (bytes_eq q n) parts.0)) behind.1 (Contains-cases n ns q within),
    )

-- Numbers in their order.

-- sorting adds no member
pub Contains-of_by_bytes : {X : Type 0} (key : X → List ℕ) (xs : List X) (y : X) → Contains (by_bytes key xs) y → Contains xs y
Contains-of_by_bytes key xs y within =
    All-contains (Contains xs) (by_bytes key xs) y
    (All-from_recursion (Contains xs) (by_bytes key xs) (All-by_bytes key (Contains xs) xs (AllByRecursion-from_members (Contains xs) xs (λ x here. here)))) within

-- where none passes, there is no first that does
pub position_from-none : {X : Type 0} (p : X → Bool) (i : ℕ) (xs : List X) → AllByRecursion (λ x. p x ≡ false) xs → position_from p i xs ≡ None
position_from-none p i [] none = refl
position_from-none p i (x ∷ xs) none = ap (λ b. cond b (Some i) (position_from p (i + 1) xs)) none.0 ∙ position_from-none p (i + 1) xs none.1
