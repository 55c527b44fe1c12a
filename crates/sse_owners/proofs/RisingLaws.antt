-- Numbers that rise, and a search among them.
use Rattle.std.proofs.Common.{◌≡◌, ◌⊎◌, inl, inr, ℕ, ◌<◌, ◌≤◌, List, length, get_or, sym, subst, ◌∙◌, arith, nat_cmp}
use Rattle.std.specs.Prelude.{Contains, Result, Ok, Err, MatchResult}
use Rattle.std.specs.List.Sorted.{IsStrictlyIncreasing, IsBinarySearchResult}
use Rattle.std.proofs.lemmas.Bool.{cases_order}
use Rattle.std.proofs.lemmas.Grind.{get_or_default_zero}
use Rattle.std.proofs.lemmas.List.Elements.{Contains-get_or}
use Rattle.std.proofs.lemmas.List.Sorted.{searched}
use Rattle.std.proofs.lemmas.List.Kept.{AllPairs-from_increasing}
use Rattle.sse_owners.proofs.OwnedLaws.{IsApart}

pub apart : (numbers : List ℕ) (i : ℕ) → IsStrictlyIncreasing numbers → i < length numbers → IsApart numbers i
apart numbers i rising within j lt differ same = by (cases_order j i)
  where
    by : (j ≡ i) ⊎ ((j < i) ⊎ (i < j)) → ⊥
    by (inl e) = differ e
    by (inr (inl less)) = let below : get_or numbers j 0 < get_or numbers i 0 = AllPairs-from_increasing numbers rising j i 0 less within in omega (arith, below, same)
    by (inr (inr more)) = let above : get_or numbers i 0 < get_or numbers j 0 = AllPairs-from_increasing numbers rising i j 0 more lt in omega (arith, above, same)

-- they don't fall
pub rising_order : (numbers : List ℕ) → IsStrictlyIncreasing numbers → (i j : ℕ) → i ≤ j → j < length numbers → get_or numbers i 0 ≤ get_or numbers j 0
rising_order numbers rising i j le within = by (cases_order i j)
  where
    by : (i ≡ j) ⊎ ((i < j) ⊎ (j < i)) → get_or numbers i 0 ≤ get_or numbers j 0
    by (inl e) = subst (λ k. get_or numbers i 0 ≤ get_or numbers k 0) e (omega arith)
    by (inr (inl less)) = let below : get_or numbers i 0 < get_or numbers j 0 = AllPairs-from_increasing numbers rising i j 0 less within in omega (arith, below)
    by (inr (inr more)) = omega (arith, more, le)

-- a number at a place is one of them
pub contained : (numbers : List ℕ) (owner i : ℕ) → i < length numbers → get_or numbers i 0 ≡ owner → Contains numbers owner
contained numbers owner i within is = subst (λ n. Contains numbers n) is (Contains-get_or numbers i 0 within)

-- and one that stands nowhere isn't
pub missing : (numbers : List ℕ) (owner i : ℕ) → (i ≤ length numbers) × ((k : ℕ) → k < i → get_or numbers k 0 < owner) × ((k : ℕ) → i ≤ k → k < length numbers → owner < get_or numbers k 0) → Contains numbers owner → ⊥
missing numbers owner i at has = by (cases_order has.0 i)
  where
    here : get_or numbers has.0 0 ≡ owner
    here = sym (get_or_default_zero numbers has.0 owner has.1) ∙ has.2

    by : (has.0 ≡ i) ⊎ ((has.0 < i) ⊎ (i < has.0)) → ⊥
    by (inl e) = let above : owner < get_or numbers has.0 0 = at.2 has.0 (omega (arith, e)) has.1 in omega (arith, above, here)
    by (inr (inl less)) = let below : get_or numbers has.0 0 < owner = at.1 has.0 less in omega (arith, below, here)
    by (inr (inr more)) = let above : owner < get_or numbers has.0 0 = at.2 has.0 (omega (arith, more)) has.1 in omega (arith, above, here)

-- so says a search among numbers that rise

abbrev IsSearched : (numbers : List ℕ) (owner : ℕ) → Result ℕ ℕ → Type 0
IsSearched numbers owner r = MatchResult r (λ i. (i < length numbers) × (get_or numbers i 0 ≡ owner))
    (λ i. (i ≤ length numbers) × ((k : ℕ) → k < i → get_or numbers k 0 < owner) × ((k : ℕ) → i ≤ k → k < length numbers → owner < get_or numbers k 0))

pub searched_ok : (numbers : List ℕ) (owner place : ℕ) (r : Result ℕ ℕ) → IsStrictlyIncreasing numbers → IsBinarySearchResult (λ y. nat_cmp y owner) numbers r → r ≡ Ok place → (place < length numbers) × (get_or numbers place 0 ≡ owner)
searched_ok numbers owner place r rising is same = subst (IsSearched numbers owner) same (searched numbers owner r is (rising_order numbers rising))

pub searched_err : (numbers : List ℕ) (owner place : ℕ) (r : Result ℕ ℕ) → IsStrictlyIncreasing numbers → IsBinarySearchResult (λ y. nat_cmp y owner) numbers r → r ≡ Err place → Contains numbers owner → ⊥
searched_err numbers owner place r rising is same = missing numbers owner place (subst (IsSearched numbers owner) same (searched numbers owner r is (rising_order numbers rising)))
