-- The entries of an addition in the order of their labels, each taken from its place.
use Rattle.std.proofs.Common.{◌≡◌, ◌+◌, ◌<◌, ℕ, List, [], ◌∷◌, ◌++◌, length, map, get_or, refl, sym, ap, ◌∙◌, subst, arith, length-append, append_assoc}
use Rattle.std.specs.List.{AllByRecursion}
use Rattle.std.proofs.lemmas.List.{length-map}
use Rattle.add_counters.specs.declared.entry.Entry.{Entry}
use Rattle.client_tag_order.proofs.InOrder.{all_at, by_bytes-map, sorted-IsPlaced}
use Rattle.client_tag_order.specs.Tagged.{IsOrderOf, tagged_from}
use Rattle.client_tag_order.specs.declared.tagged.Tagged.{Tagged}
use Rattle.sse_frames.specs.Order.{by_bytes}

abbrev pub label_of : Entry → List ℕ
label_of e = e.label

abbrev pub no_entry : Entry
no_entry = record { label = []; sealed = [] }

-- the entry at the place of a label
abbrev pub entry_at : List Entry → Tagged → Entry
entry_at es e = get_or es e.position no_entry

at_end : (front es : List Entry) (x : Entry) → get_or (front ++ x ∷ es) (length front) no_entry ≡ x
at_end [] es x = refl
at_end (y ∷ front) es x = at_end front es x

-- each entry is the one at the place of its label
from_places : (front es : List Entry) → map (entry_at (front ++ es)) (tagged_from (length front) (map label_of es)) ≡ es
from_places front [] = refl
from_places front (x ∷ es) =
    let one : length front + 1 ≡ length (front ++ x ∷ []) = omega (arith, length-append front (x ∷ [])) in
    let joined : (front ++ x ∷ []) ++ es ≡ front ++ x ∷ es = append_assoc front (x ∷ []) es in
    (λ i. at_end front es x i ∷ map (entry_at (front ++ x ∷ es)) (tagged_from (one i) (map label_of es)))
    ∙ ap (λ all. x ∷ map (entry_at all) (tagged_from (length (front ++ x ∷ [])) (map label_of es))) (sym joined)
    ∙ ap (λ rest. x ∷ rest) (from_places (front ++ x ∷ []) es)

-- and has that label
same_labels : (front es : List Entry) → AllByRecursion (λ e. label_of (entry_at (front ++ es) e) ≡ e.tag) (tagged_from (length front) (map label_of es))
same_labels front [] = tt
same_labels front (x ∷ es) =
    let one : length (front ++ x ∷ []) ≡ length front + 1 = omega (arith, length-append front (x ∷ [])) in
    let joined : (front ++ x ∷ []) ++ es ≡ front ++ x ∷ es = append_assoc front (x ∷ []) es in (
      ap label_of (at_end front es x),
      subst (λ k. AllByRecursion (λ e. label_of (entry_at (front ++ x ∷ es) e) ≡ e.tag) (tagged_from k (map label_of es))) one
          (subst (λ all. AllByRecursion (λ e. label_of (entry_at all e) ≡ e.tag) (tagged_from (length (front ++ x ∷ [])) (map label_of es))) joined
          (same_labels (front ++ x ∷ []) es)),
    )

module _ (es : List Entry) (order : List Tagged) (is : IsOrderOf (map label_of es) order) where
  -- taken in the order of the labels, the entries are those by rising label
  pub entries_in_order : map (entry_at es) order ≡ by_bytes label_of es
  entries_in_order =
      ap (map (entry_at es)) is
      ∙ sym (by_bytes-map (λ (e : Tagged). e.tag) label_of (entry_at es) (tagged_from 0 (map label_of es)) (same_labels [] es))
      ∙ ap (by_bytes label_of) (from_places [] es)

  -- and each place is that of an entry
  pub place_within : (k : ℕ) (d : Tagged) → k < length order → (get_or order k d).position < length es
  place_within k d lt =
      let placed = all_at _ order k d (subst (AllByRecursion _) (sym is) (sorted-IsPlaced (map label_of es))) lt in
      omega (arith, placed.0, length-map es label_of)
