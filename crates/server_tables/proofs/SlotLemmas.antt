-- The map of slots by rising label: what a search among them finds, and what a slot more or less does to it.
use Rattle.std.proofs.Common.{◌≡◌, ℕ, ◌<◌, ◌≤◌, Bool, true, false, List, [], ◌∷◌, cond, length, map, get_or, Some, None, refl, sym, ap, ◌∙◌, inl, inr, Result, Ok, Err, MatchResult, arith}
use Rattle.std.specs.Prelude.{T}
use Rattle.std.specs.List.{insert, HoldsAt}
use Rattle.std.specs.List.Sorted.{IsNonDecreasingBy, IsPartitionPoint, IsSearchInRange, IsBinarySearchResult}
use Rattle.std.specs.Option.{is_some}
use Rattle.std.specs.Ordering.{ordering_index, is_eq, eq_by_cmp, nat_cmp}
use Rattle.std.specs.declared.cmp.Ordering.TheVariants.{Less, Equal, Greater}
use Rattle.std.specs.Cmp.Lexicographic.{slice_cmp}
use Rattle.std.specs.FinMap as finmap
use Rattle.std.specs.FinMap.Entries.{is_sorted, put, is_sorted-put}
use Rattle.std.proofs.lemmas.Bool.{cases_lt}
use Rattle.std.proofs.lemmas.Cmp.{nat_list_cmp_total}
use Rattle.std.proofs.lemmas.List.{map-append, take-map, drop-map, length-map}
use Rattle.server_tables.specs.declared.sorted_map.Slot.{Slot}
use Rattle.server_tables.specs.Labelled.{Labelled}
use Rattle.server_tables.specs.Slots.{entry_of, map_of, AreRising, IsAt, GoesTo}
use Rattle.server_tables.proofs.Places.{IsGap, turned, searchable, found_at, absent, placed, rising_fewer, find_fewer}

as_T : (b : Bool) → b ≡ true → T b
as_T true e = tt
as_T false e = cc

as_true : (b : Bool) → T b → b ≡ true
as_true true h = refl
as_true false h = absurd h

-- two maps that are found alike are one
pub same_labelled : {V : Type 0} (m n : Labelled V) → ((q : List ℕ) → finmap.get m q ≡ finmap.get n q) → m ≡ n
same_labelled m n same = finmap.same_map nat_list_cmp_total (finmap.slice_cmp-IsAntisymmetric finmap.nat_cmp-IsAntisymmetric) m n same

module _ {V : Type 0} where
  map-insert : (slots : List (Slot V)) (i : ℕ) (slot : Slot V) → map entry_of (insert slots i slot) ≡ insert (map entry_of slots) i (entry_of slot)
  map-insert slots i slot = simp (map-append, take-map, drop-map)

  -- no slots are the empty map
  pub map_of-nil : map_of {V = V} [] ≡ finmap.empty
  map_of-nil = finmap.empty_of_len _ (finmap.len-entries _ ∙ ap length (finmap.entries-from_sorted (slice_cmp nat_cmp) [] tt))

  -- as many labels as slots
  pub len-map_of : (slots : List (Slot V)) → AreRising slots → finmap.len (map_of slots) ≡ length slots
  len-map_of slots rising = finmap.len-entries _ ∙ ap length (finmap.entries-from_sorted (slice_cmp nat_cmp) _ (as_T _ rising)) ∙ length-map slots entry_of

  some_slot : (slots : List (Slot V)) (i : ℕ) → i < length slots → Slot V
  some_slot [] i lt = absurd (omega arith)
  some_slot (slot ∷ slots) i lt = slot

  module _ (slots : List (Slot V)) (q : List ℕ) (i : ℕ) (rising : AreRising slots) where
    -- a label that a search finds
    pub is_at : i < length slots → HoldsAt (λ s. slice_cmp nat_cmp s.label q ≡ Equal) slots i → IsAt slots q i
    is_at lt ties =
        let d = some_slot slots i lt in
        let fewer = rising_fewer nat_list_cmp_total entry_of slots i rising in
        let found : (e : Slot V) → finmap.get (map_of slots) q ≡ Some (get_or slots i e).value = λ e. finmap.get-from_sorted (slice_cmp nat_cmp) _ q (as_T _ rising) ∙ found_at nat_list_cmp_total entry_of q slots rising i e lt (ties e) in
        record {
          within = lt;
          there = ap is_some (found d);
          found = found;
          rising = fewer;
          removed = same_labelled _ _ (λ p.
              finmap.get-from_sorted (slice_cmp nat_cmp) _ p (as_T _ fewer)
              ∙ find_fewer nat_list_cmp_total entry_of q p slots rising i d lt (ties d)
              ∙ ap (cond (eq_by_cmp (slice_cmp nat_cmp) p q) None) (sym (finmap.get-from_sorted (slice_cmp nat_cmp) _ p (as_T _ rising)))
              ∙ sym (finmap.get-remove nat_list_cmp_total (map_of slots) q p));
        }

    gap_of : i ≤ length slots → (IsNonDecreasingBy (λ s. ordering_index (slice_cmp nat_cmp s.label q)) slots → IsPartitionPoint (λ s. slice_cmp nat_cmp s.label q ≡ Less) (λ s. slice_cmp nat_cmp s.label q ≡ Greater) slots i) → IsGap nat_list_cmp_total entry_of slots q i
    gap_of within parted =
        let point = parted (searchable nat_list_cmp_total entry_of q slots rising) in
        record {
          within = within;
          before = λ j d lt. turned nat_list_cmp_total _ q Less (point.0 j d (omega arith) lt);
          after = λ j d le lt. turned nat_list_cmp_total _ q Greater (point.1 j d le lt);
        }

    entries_new : (v : V) → IsGap nat_list_cmp_total entry_of slots q i → map entry_of (insert slots i (record { label = q; value = v })) ≡ put (slice_cmp nat_cmp) q v (map entry_of slots)
    entries_new v gap = map-insert slots i (record { label = q; value = v }) ∙ sym (placed nat_list_cmp_total entry_of q v slots i gap)

    put_sorted : (v : V) → T (is_sorted (slice_cmp nat_cmp) (put (slice_cmp nat_cmp) q v (map entry_of slots)))
    put_sorted v = is_sorted-put (slice_cmp nat_cmp) nat_list_cmp_total q v _ (as_T _ rising)

    -- a label that isn't there, as a search tells it
    pub goes_to : i ≤ length slots → (IsNonDecreasingBy (λ s. ordering_index (slice_cmp nat_cmp s.label q)) slots → IsPartitionPoint (λ s. slice_cmp nat_cmp s.label q ≡ Less) (λ s. slice_cmp nat_cmp s.label q ≡ Greater) slots i) → GoesTo slots q i
    goes_to within parted =
        let gap = gap_of within parted in
        record {
          within = within;
          absent = finmap.get-from_sorted (slice_cmp nat_cmp) _ q (as_T _ rising) ∙ absent nat_list_cmp_total entry_of q slots (λ j d lt. elim (cases_lt j i) [
            | inl below ↦ ap is_eq (gap.before j d below)
            | inr above ↦ ap is_eq (gap.after j d above lt)
          ]);
          rising = λ v. ap (is_sorted (slice_cmp nat_cmp)) (entries_new v gap) ∙ as_true _ (put_sorted v);
          inserted = λ v. ap finmap.from_sorted (entries_new v gap)
              ∙ finmap.same_entries_map _ _ (
              finmap.entries-from_sorted (slice_cmp nat_cmp) _ (put_sorted v)
              ∙ ap (put (slice_cmp nat_cmp) q v) (sym (finmap.entries-from_sorted (slice_cmp nat_cmp) _ (as_T _ rising)))
              ∙ sym (finmap.entries-insert nat_list_cmp_total (map_of slots) q v));
        }

  -- what a binary search tells of a label
  pub place_of : (slots : List (Slot V)) (q : List ℕ) → AreRising slots → (r : Result ℕ ℕ) → IsSearchInRange r (length slots) → IsBinarySearchResult (λ s. slice_cmp nat_cmp s.label q) slots r → MatchResult r (IsAt slots q) (GoesTo slots q)
  place_of slots q rising (Ok i) within found = is_at slots q i rising within found
  place_of slots q rising (Err i) within parted = goes_to slots q i rising within parted
