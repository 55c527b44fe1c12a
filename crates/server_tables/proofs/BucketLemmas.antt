-- The map of the entries of a hash table: it is looked up alike, and a new entry, one that goes and no entries at
-- all are the insert, the remove and the empty map of it.
use Rattle.std.proofs.Common.{◌≡◌, ◌+◌, Bool, false, cond, List, [], ◌∷◌, length, map, Some, None, nat_eq, refl, sym, ap, ◌∙◌, arith}
use Rattle.std.specs.Option.{is_some}
use Rattle.std.specs.List.{IsDistinct, AllByRecursion}
use Rattle.std.specs.Map.{lookup}
use Rattle.std.specs.Ordering.{nat_cmp}
use Rattle.std.specs.Cmp.Lexicographic.{slice_cmp, pointwise, texts_ties}
use Rattle.std.specs.FinMap as finmap
use Rattle.std.specs.FinMap.{find}
use Rattle.std.proofs.lemmas.Cmp.{nat_list_cmp_total, eq_by_cmp_equiv}
use Rattle.server_tables.specs.declared.key.Key.{Key}
use Rattle.server_tables.specs.Buckets.{entry_of, map_of}
use Rattle.server_tables.proofs.SlotLemmas.{same_labelled}

abbrev same_key : Key → Key → Bool
same_key x y = pointwise nat_eq x.0 y.0

module _ {V : Type 0} where
  -- the table finds what the map has
  pub get-map_of : (es : List (Key × V)) (key : Key) → finmap.get (map_of es) key.0 ≡ lookup (same_key key) es
  get-map_of es key = finmap.get-from_entries nat_list_cmp_total (map entry_of es) key.0 ∙ found es where
    found : (es : List (Key × V)) → find (slice_cmp nat_cmp) key.0 (map entry_of es) ≡ lookup (same_key key) es
    found [] = refl
    found (e ∷ es) = λ i. cond (sym (texts_ties key.0 e.0.0) i) (Some e.1) (found es i)

  -- a table that has the new value at the key, and else what another has, is the other with the key inserted
  pub map_of-inserted : (es new : List (Key × V)) (key : Key) (v : V) → ((q : Key) → lookup (same_key q) new ≡ cond (same_key key q) (Some v) (lookup (same_key q) es)) → map_of new ≡ finmap.insert (map_of es) key.0 v
  map_of-inserted es new key v is = same_labelled _ _ (λ q.
      let k : Key = record { 0 = q } in
      get-map_of new k
      ∙ is k
      ∙ (λ i. cond (texts_ties key.0 q i) (Some v) (sym (get-map_of es k) i))
      ∙ ap (λ b. cond b (Some v) (finmap.get (map_of es) q)) ((eq_by_cmp_equiv nat_list_cmp_total).symm key.0 q)
      ∙ sym (finmap.get-insert nat_list_cmp_total (map_of es) key.0 v q))

  -- a table that has nothing at the key, and else what another has, is the other with the key removed
  pub map_of-removed : (es new : List (Key × V)) (key : Key) → ((q : Key) → lookup (same_key q) new ≡ cond (same_key key q) None (lookup (same_key q) es)) → map_of new ≡ finmap.remove (map_of es) key.0
  map_of-removed es new key is = same_labelled _ _ (λ q.
      let k : Key = record { 0 = q } in
      get-map_of new k
      ∙ is k
      ∙ (λ i. cond (texts_ties key.0 q i) None (sym (get-map_of es k) i))
      ∙ ap (λ b. cond b None (finmap.get (map_of es) q)) ((eq_by_cmp_equiv nat_list_cmp_total).symm key.0 q)
      ∙ sym (finmap.get-remove nat_list_cmp_total (map_of es) key.0 q))

  -- tables that are looked up alike are one map
  pub map_of-same : (es new : List (Key × V)) → ((q : Key) → lookup (same_key q) new ≡ lookup (same_key q) es) → map_of new ≡ map_of es
  map_of-same es new is = same_labelled _ _ (λ q. get-map_of new (record { 0 = q }) ∙ is (record { 0 = q }) ∙ sym (get-map_of es (record { 0 = q })))

  apart : (key : Key) (es : List (Key × V)) → AllByRecursion (λ y. same_key key y ≡ false) (map (λ e. e.0) es) → lookup (same_key key) es ≡ None
  apart key [] none = refl
  apart key (e ∷ es) none = ap (λ b. cond b (Some e.1) (lookup (same_key key) es)) none.0 ∙ apart key es none.1

  -- as many labels as entries, where no two entries have one label
  pub len-map_of : (es : List (Key × V)) → IsDistinct same_key (map (λ e. e.0) es) → finmap.len (map_of es) ≡ length es
  unfolding IsDistinct
  len-map_of [] distinct = finmap.len-empty (slice_cmp nat_cmp) V
  len-map_of (e ∷ es) distinct =
      let new : finmap.get (map_of es) e.0.0 ≡ None = get-map_of es e.0 ∙ apart e.0 es distinct.0 in
      finmap.len-insert nat_list_cmp_total (map_of es) e.0.0 e.1
      ∙ ap (λ o. cond (is_some o) (finmap.len (map_of es)) (finmap.len (map_of es) + 1)) new
      ∙ omega (arith, len-map_of es distinct.1)
