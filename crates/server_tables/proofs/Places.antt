-- What a binary search finds among slots whose keys rise, and what a slot put in or taken out there does to their map.
use Rattle.std.proofs.Common.{◌≡◌, ℕ, zero, suc, ◌<◌, ◌≤◌, Bool, true, false, cond, ◌&&◌, List, [], ◌∷◌, length, map, get_or, Option, Some, None, IsTrue, refl, sym, ap, ◌∙◌, arith}
use Rattle.std.specs.List.{insert, remove}
use Rattle.std.specs.List.Sorted.{IsNonDecreasingBy}
use Rattle.std.specs.Ordering.{ordering_index, ordering_reverse, is_eq, is_lt, eq_by_cmp}
use Rattle.std.specs.declared.cmp.Ordering.{Ordering}
use Rattle.std.specs.declared.cmp.Ordering.TheVariants.{Less, Equal, Greater}
use Rattle.std.specs.Cmp.{IsTotalOrder}
use Rattle.std.specs.FinMap.Entries.{is_sorted, below_all, find, put}
use Rattle.std.proofs.lemmas.Bool.{and_parts}
use Rattle.std.proofs.lemmas.Cmp.{tied_back, alike_right}

module _ {K : Type 0} {R : K → K → Ordering} (o : IsTotalOrder R) where
  pub turned : (x y : K) (r : Ordering) → R x y ≡ r → R y x ≡ ordering_reverse r
  turned x y r is = o.antisymm y x ∙ ap ordering_reverse is

  -- of two keys, the lower one compares no higher with any third
  index_rises : (x y q : K) → R x y ≡ Less → ordering_index (R x q) ≤ ordering_index (R y q)
  index_rises x y q below =
      elim (R x q) as (λ r. R x q ≡ r → ordering_index r ≤ ordering_index (R y q)) [
        | Less ↦ λ is. omega arith
        | Equal ↦ λ is. omega (arith, ap ordering_index (turned q y Less (sym (o.congr x q y is) ∙ below)))
        | Greater ↦ λ is. omega (arith, ap ordering_index (turned q y Less (o.trans q x y (turned x q Greater is) below)))
      ] refl

less : (r : Ordering) → is_lt r ≡ true → r ≡ Less
less Less p = refl
less Equal p = cc
less Greater p = cc

equal : (r : Ordering) → is_eq r ≡ true → r ≡ Equal
equal Less p = cc
equal Equal p = refl
equal Greater p = cc

and_both : (a b : Bool) → a ≡ true → b ≡ true → (a && b) ≡ true
and_both true b p q = q
and_both false b p q = cc

module _ {S K X : Type 0} {R : K → K → Ordering} (o : IsTotalOrder R) (entry : S → K × X) where
  -- a key below all is below each
  below_each : (k : K) (slots : List S) → IsTrue (below_all R k (map entry slots)) → (j : ℕ) (d : S) → j < length slots → R k (entry (get_or slots j d)).0 ≡ Less
  below_each k [] h j d lt = absurd (omega arith)
  below_each k (x ∷ xs) h zero d lt = less _ (and_parts _ _ h).0
  below_each k (x ∷ xs) h (suc j) d lt = below_each k xs (and_parts _ _ h).1 j d (omega arith)

  -- the comparisons with q rise along the slots, as a binary search asks
  pub searchable : (q : K) (slots : List S) → IsTrue (is_sorted R (map entry slots)) → IsNonDecreasingBy (λ y. ordering_index (R (entry y).0 q)) slots
  searchable q [] h i j d le lt = absurd (omega arith)
  searchable q (x ∷ xs) h zero zero d le lt = omega arith
  searchable q (x ∷ xs) h zero (suc j) d le lt = index_rises o _ _ q (below_each _ xs (and_parts _ _ h).0 j d (omega arith))
  searchable q (x ∷ xs) h (suc i) zero d le lt = absurd (omega arith)
  searchable q (x ∷ xs) h (suc i) (suc j) d le lt = searchable q xs (and_parts _ _ h).1 i j d (omega arith) (omega arith)

  -- what stands at a slot whose key ties with q is found
  pub found_at : (q : K) (slots : List S) → IsTrue (is_sorted R (map entry slots)) → (i : ℕ) (d : S) → i < length slots → R (entry (get_or slots i d)).0 q ≡ Equal → find R q (map entry slots) ≡ Some (entry (get_or slots i d)).1
  found_at q [] h i d lt ties = absurd (omega arith)
  found_at q (x ∷ xs) h zero d lt ties = ap (λ r. cond (is_eq r) (Some (entry x).1) (find R q (map entry xs))) (tied_back o _ _ ties)
  found_at q (x ∷ xs) h (suc i) d lt ties =
      let above : R q (entry x).0 ≡ Greater = turned o _ _ Less (sym (alike_right o _ q _ ties) ∙ below_each _ xs (and_parts _ _ h).0 i d (omega arith)) in
      ap (λ r. cond (is_eq r) (Some (entry x).1) (find R q (map entry xs))) above ∙ found_at q xs (and_parts _ _ h).1 i d (omega arith) ties

  -- where no key ties with q, nothing is found
  pub absent : (q : K) (slots : List S) → ((j : ℕ) (d : S) → j < length slots → is_eq (R q (entry (get_or slots j d)).0) ≡ false) → find R q (map entry slots) ≡ None
  absent q [] none = refl
  absent q (x ∷ xs) none = ap (λ b. cond b (Some (entry x).1) (find R q (map entry xs))) (none 0 x (omega arith)) ∙ absent q xs (λ j d lt. none (suc j) d (omega arith))

  -- the place of a key that isn't there: lower keys before it, and higher ones from it on
  pub record IsGap (slots : List S) (q : K) (i : ℕ) : Type 0 where
    pub within : i ≤ length slots
    pub before : (j : ℕ) (d : S) → j < i → R q (entry (get_or slots j d)).0 ≡ Greater
    pub after : (j : ℕ) (d : S) → i ≤ j → j < length slots → R q (entry (get_or slots j d)).0 ≡ Less

  -- to put an entry in its place is to insert it in the gap
  pub placed : (q : K) (v : X) (slots : List S) (i : ℕ) → IsGap slots q i → put R q v (map entry slots) ≡ insert (map entry slots) i (q, v)
  placed q v [] zero gap = refl
  placed q v [] (suc i) gap = absurd (omega (arith, gap.within))
  placed q v (x ∷ xs) zero gap = rw (gap.after 0 x (omega arith) (omega arith)) refl
  placed q v (x ∷ xs) (suc i) gap = rw (gap.before 0 x (omega arith)) (ap (λ es. entry x ∷ es) (placed q v xs i (record {
    within = omega (arith, gap.within);
    before = λ j d lt. gap.before (suc j) d (omega arith);
    after = λ j d le lt. gap.after (suc j) d (omega arith) (omega arith);
  })))

  -- one key less leaves those above it above, and those that rise rising
  below_fewer : (k : K) (slots : List S) (i : ℕ) → IsTrue (below_all R k (map entry slots)) → IsTrue (below_all R k (map entry (remove slots i)))
  below_fewer k [] zero h = refl
  below_fewer k [] (suc i) h = refl
  below_fewer k (x ∷ xs) zero h = (and_parts _ _ h).1
  below_fewer k (x ∷ xs) (suc i) h = and_both _ _ (and_parts _ _ h).0 (below_fewer k xs i (and_parts _ _ h).1)

  pub rising_fewer : (slots : List S) (i : ℕ) → IsTrue (is_sorted R (map entry slots)) → IsTrue (is_sorted R (map entry (remove slots i)))
  rising_fewer [] zero h = refl
  rising_fewer [] (suc i) h = refl
  rising_fewer (x ∷ xs) zero h = (and_parts _ _ h).1
  rising_fewer (x ∷ xs) (suc i) h = and_both _ _ (below_fewer _ xs i (and_parts _ _ h).0) (rising_fewer xs i (and_parts _ _ h).1)

  -- no key of those above one that ties with q ties with q
  above_absent : (x q : K) (slots : List S) → R x q ≡ Equal → IsTrue (below_all R x (map entry slots)) → find R q (map entry slots) ≡ None
  above_absent x q slots ties below = absent q slots (λ j d lt. ap is_eq (sym (o.congr x q _ ties) ∙ below_each x slots below j d lt))

  -- two tests of which one is passed at most come in either order
  either_order : (a b : Bool) (x : Option X) (v : X) → (a ≡ true → b ≡ true → ⊥) → cond a (Some v) (cond b None x) ≡ cond b None (cond a (Some v) x)
  either_order true true x v apart = absurd (apart refl refl)
  either_order true false x v apart = refl
  either_order false b x v apart = refl

  -- without the slot whose key ties with q, what is found is what was, but nothing for q
  pub find_fewer : (q p : K) (slots : List S) → IsTrue (is_sorted R (map entry slots)) → (i : ℕ) (d : S) → i < length slots → R (entry (get_or slots i d)).0 q ≡ Equal → find R p (map entry (remove slots i)) ≡ cond (eq_by_cmp R p q) None (find R p (map entry slots))
  find_fewer q p [] h i d lt ties = absurd (omega arith)
  find_fewer q p (x ∷ xs) h zero d lt ties =
      let same : R p (entry x).0 ≡ R p q = alike_right o _ _ p ties in
      elim (eq_by_cmp R p q) as (λ b. eq_by_cmp R p q ≡ b → find R p (map entry xs) ≡ cond b None (cond (eq_by_cmp R p (entry x).0) (Some (entry x).1) (find R p (map entry xs)))) [
        | true ↦ λ is. above_absent (entry x).0 p xs (tied_back o _ _ (same ∙ equal _ is)) (and_parts _ _ h).0
        | false ↦ λ is. sym (ap (λ b. cond b (Some (entry x).1) (find R p (map entry xs))) (ap is_eq same ∙ is))
      ] refl
  find_fewer q p (x ∷ xs) h (suc i) d lt ties =
      let apart : eq_by_cmp R p (entry x).0 ≡ true → eq_by_cmp R p q ≡ true → ⊥ = λ first last.
      let above = below_each _ xs (and_parts _ _ h).0 i d (omega arith) in
      let level : R (entry x).0 q ≡ Equal = sym (o.congr p (entry x).0 q (equal _ first)) ∙ equal _ last in
      let not_level : R (entry x).0 q ≡ Less = sym (alike_right o _ _ _ ties) ∙ above in
      cc in
      ap (λ r. cond (eq_by_cmp R p (entry x).0) (Some (entry x).1) r) (find_fewer q p xs (and_parts _ _ h).1 i d (omega arith) ties)
      ∙ either_order (eq_by_cmp R p (entry x).0) (eq_by_cmp R p q) (find R p (map entry xs)) (entry x).1 apart
