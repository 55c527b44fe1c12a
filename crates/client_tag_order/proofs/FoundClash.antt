-- A loop over sorted tags that keeps the least clash among neighbours.
use Rattle.std.proofs.Common.{◌≡◌, ◌≢◌, ℕ, ◌+◌, ◌-◌, ◌<◌, ◌≤◌, Bool, true, false, cond, List, [], length, get_or, Option, None, Some, refl, sym, ap, subst, ◌∙◌, arith, inl, inr}
use Rattle.std.specs.Prelude.{nat_lt}
use Rattle.std.proofs.lemmas.Bool.{cases_lt, ltb-true, ltb-false}
use Rattle.client_registry.specs.FirstClash.{first_clash}
use Rattle.sse_frames.specs.Order.{by_bytes}
use Rattle.client_tag_order.specs.Tagged.{tagged_from, least_second, IsOrderOf}
use Rattle.client_tag_order.specs.declared.tagged.Tagged.{Tagged}
use Rattle.client_tag_order.proofs.InOrder.{key, pos}
use Rattle.client_tag_order.proofs.Neighbours.{no_clash, clash_is, length-order}

abbrev pub nothing : Tagged
nothing = record { tag = []; position = 0 }

abbrev pub at : List Tagged → ℕ → Tagged
at sorted m = get_or sorted m nothing

-- what the first k of the sorted have: no equal neighbours, or those whose second has the least position
abbrev pub IsFound : List Tagged → ℕ → Option (ℕ × ℕ) → Type 0
IsFound sorted k None = (m : ℕ) → 0 < m → m < k → key (at sorted (m - 1)) ≢ key (at sorted m)
IsFound sorted k (Some p) =
    (j : ℕ) × (0 < j) × (j < k) × (key (at sorted (j - 1)) ≡ key (at sorted j)) × (p ≡ (pos (at sorted (j - 1)), pos (at sorted j)))
    × ((m : ℕ) → 0 < m → m < k → key (at sorted (m - 1)) ≡ key (at sorted m) → pos (at sorted j) ≤ pos (at sorted m))

-- two neighbours more that are equal
pub IsFound-equal : (sorted : List Tagged) (k : ℕ) (o : Option (ℕ × ℕ)) → 0 < k → key (at sorted (k - 1)) ≡ key (at sorted k) → IsFound sorted k o
    → IsFound sorted (k + 1) (least_second o (pos (at sorted (k - 1)), pos (at sorted k)))
IsFound-equal sorted k None some same found = (
  k,
  some,
  omega arith,
  same,
  refl,
  λ m low high equal. elim (cases_lt m k) [
    | inl lt ↦ absurd (found m low lt equal)
    | inr ge ↦ let e : k ≡ m = omega arith in subst (λ n. pos (at sorted k) ≤ pos (at sorted n)) e (omega arith)
  ],
)
IsFound-equal sorted k (Some p) some same found = by (nat_lt (pos (at sorted k)) p.1) refl
  where
    j : ℕ
    j = found.0

    second : p.1 ≡ pos (at sorted j)
    second = ap (λ (q : ℕ × ℕ). q.1) found.4

    by : (b : Bool) → nat_lt (pos (at sorted k)) p.1 ≡ b → IsFound sorted (k + 1) (cond b (Some (pos (at sorted (k - 1)), pos (at sorted k))) (Some p))
    by true is =
        let less : pos (at sorted k) < p.1 = ltb-true (pos (at sorted k)) p.1 is in (
          k,
          some,
          omega arith,
          same,
          refl,
          λ m low high equal. elim (cases_lt m k) [
            | inl lt ↦ let far = found.5 m low lt equal in omega (arith, far, second, less)
            | inr ge ↦ let e : k ≡ m = omega arith in subst (λ n. pos (at sorted k) ≤ pos (at sorted n)) e (omega arith)
          ],
        )
    by false is =
        let more : p.1 ≤ pos (at sorted k) = ltb-false (pos (at sorted k)) p.1 is in (
          j,
          found.1,
          omega (arith, found.2),
          found.3,
          found.4,
          λ m low high equal. elim (cases_lt m k) [
            | inl lt ↦ found.5 m low lt equal
            | inr ge ↦ let e : k ≡ m = omega arith in subst (λ n. pos (at sorted j) ≤ pos (at sorted n)) e (omega (arith, second, more))
          ],
        )

-- two neighbours more that differ
pub IsFound-apart : (sorted : List Tagged) (k : ℕ) (o : Option (ℕ × ℕ)) → key (at sorted (k - 1)) ≢ key (at sorted k) → IsFound sorted k o → IsFound sorted (k + 1) o
IsFound-apart sorted k None apart found = λ m low high. elim (cases_lt m k) [
  | inl lt ↦ found m low lt
  | inr ge ↦ let e : k ≡ m = omega arith in subst (λ n. key (at sorted (n - 1)) ≢ key (at sorted n)) e apart
]
IsFound-apart sorted k (Some p) apart found = (
  found.0,
  found.1,
  omega (arith, found.2),
  found.3,
  found.4,
  λ m low high equal. elim (cases_lt m k) [
    | inl lt ↦ found.5 m low lt equal
    | inr ge ↦ let e : m ≡ k = omega arith in absurd (subst (λ n. key (at sorted (n - 1)) ≡ key (at sorted n) → ⊥) (sym e) apart equal)
  ],
)

found_in : (tags : List (List ℕ)) (k : ℕ) (o : Option (ℕ × ℕ)) → length tags ≤ k → (1 ≤ length tags → k ≤ length tags) → k ≤ 1 + length tags
    → IsFound (by_bytes key (tagged_from 0 tags)) k o → o ≡ first_clash tags
found_in tags k None reached within most found = sym (no_clash tags nothing (λ m low high. found m low (omega arith)))
found_in tags k (Some p) reached within most found =
    let below : found.0 < length tags = elim (cases_lt 0 (length tags)) [ inl lt ↦ let w = within (omega arith) in omega (arith, w, found.2) | inr ge ↦ absurd (omega (arith, found.1, found.2)) ] in
    ap (λ q. Some q) found.4 ∙ sym (clash_is tags nothing found.0 found.1 below found.3 (λ m low high. found.5 m low (omega arith)))

-- all of them have the first clash of the tags
pub IsFound-all : (tags : List (List ℕ)) (sorted : List Tagged) (k : ℕ) (o : Option (ℕ × ℕ)) → IsOrderOf tags sorted → length sorted ≤ k
    → (1 ≤ length sorted → k ≤ length sorted) → k ≤ 1 + length sorted → IsFound sorted k o → o ≡ first_clash tags
IsFound-all tags sorted k o is reached within most found =
    let size : length sorted ≡ length tags = ap length is ∙ length-order tags nothing in
    found_in tags k o (omega (arith, size)) (λ some. let w = within (omega (arith, size)) in omega (arith, size, w)) (omega (arith, size)) (subst (λ s. IsFound s k o) is found)
