-- Labels with what their values stand for, labels as a set, and pieces after one another.
use Rattle.std.proofs.Common.{◌≡◌, ℕ, Bool, true, false, cond, ◌||◌, ◌&&◌, not, List, [], ◌∷◌, ◌++◌, length, map, Option, Some, None, Bor, refl, sym, ap, subst, ◌∙◌, arith}
use Rattle.std.specs.Prelude.{T, ◌↔◌}
use Rattle.std.specs.List.{All}
use Rattle.std.specs.Option.{option_map, option_copied, ForSome, is_some}
use Rattle.std.specs.Ordering.{is_lt, eq_by_cmp, nat_cmp}
use Rattle.std.specs.Cmp.Lexicographic.{slice_cmp}
use Rattle.std.specs.FinMap as finmap
use Rattle.std.specs.FinMap.{find, is_sorted}
use Rattle.std.specs.FinMap.Entries.{below_all}
use Rattle.std.specs.FinSet as set
use Rattle.std.proofs.lemmas.Cmp.{nat_list_cmp_total}
use Rattle.std.proofs.lemmas.List.{length-map, map-append}
use Rattle.std.proofs.lemmas.List.Elements.{All-append, All-cons, All-head, All-tail, All-weaker}
use Rattle.server_tables.specs.declared.extent.Extent.{Extent}
use Rattle.server_tables.specs.Labelled.{Labelled}
use Rattle.server_tables.specs.Contents.{CellMap, NumberSet, no_contents}
use Rattle.server_tables.specs.Places.{piece_at, IsPlace, IsAppended, ArePlaced, map_values, label_set}
use Rattle.server_tables.specs.Room.{Room}
use Rattle.server_tables.specs.TablesView.{TablesView}
use Rattle.server_tables.proofs.SlotLemmas.{same_labelled}

as_T : (b : Bool) → b ≡ true → T b
as_T true e = tt
as_T false e = cc

abbrev by_bytes : List ℕ → List ℕ → Rattle.std.specs.declared.cmp.Ordering.Ordering
by_bytes = slice_cmp nat_cmp

module _ {V W : Type 0} (f : V → W) where
  abbrev valued : List ℕ × V → List ℕ × W
  valued e = (e.0, f e.1)

  below_valued : (label : List ℕ) (es : List (List ℕ × V)) → below_all by_bytes label (map valued es) ≡ below_all by_bytes label es
  below_valued label [] = refl
  below_valued label (e ∷ es) = ap (λ b. is_lt (by_bytes label e.0) && b) (below_valued label es)

  sorted_valued : (es : List (List ℕ × V)) → is_sorted by_bytes (map valued es) ≡ is_sorted by_bytes es
  sorted_valued [] = refl
  sorted_valued (e ∷ es) = λ i. below_valued e.0 es i && sorted_valued es i

  find_valued : (q : List ℕ) (es : List (List ℕ × V)) → find by_bytes q (map valued es) ≡ option_map f (find by_bytes q es)
  find_valued q [] = refl
  find_valued q (e ∷ es) =
      elim (eq_by_cmp by_bytes q e.0) as (λ b. cond b (Some (f e.1)) (find by_bytes q (map valued es)) ≡ option_map f (cond b (Some e.1) (find by_bytes q es))) [
        | true ↦ refl
        | false ↦ find_valued q es
      ]

  valued_rising : (m : Labelled V) → T (is_sorted by_bytes (map valued (finmap.entries m)))
  valued_rising m = as_T _ (sorted_valued (finmap.entries m) ∙ is_true _ (finmap.entries_sorted m)) where
    is_true : (b : Bool) → T b → b ≡ true
    is_true true h = refl
    is_true false h = absurd h

  -- what a label stands for
  pub get-map_values : (m : Labelled V) (q : List ℕ) → finmap.get (map_values f m) q ≡ option_map f (finmap.get m q)
  get-map_values m q = finmap.get-from_sorted by_bytes _ q (valued_rising m) ∙ find_valued q (finmap.entries m) ∙ ap (option_map f) (sym (finmap.get-entries m q))

  -- the labels are as many
  pub len-map_values : (m : Labelled V) → finmap.len (map_values f m) ≡ finmap.len m
  len-map_values m = finmap.len-entries _ ∙ ap length (finmap.entries-from_sorted by_bytes _ (valued_rising m)) ∙ length-map (finmap.entries m) valued ∙ sym (finmap.len-entries m)

  pub map_values-empty : map_values f finmap.empty ≡ finmap.empty
  map_values-empty = finmap.empty_of_len _ (len-map_values finmap.empty ∙ finmap.len-empty by_bytes V)

-- one more label, where the others stand for what they did
pub map_values-insert : {V W : Type 0} (f g : V → W) (m : Labelled V) (label : List ℕ) (v : V) (w : W) → g v ≡ w → ((q : List ℕ) → option_map g (finmap.get m q) ≡ option_map f (finmap.get m q)) → map_values g (finmap.insert m label v) ≡ finmap.insert (map_values f m) label w
map_values-insert {V} f g m label v w is kept = same_labelled _ _ (λ q.
    get-map_values g (finmap.insert m label v) q
    ∙ ap (option_map g) (finmap.get-insert nat_list_cmp_total m label v q)
    ∙ either (eq_by_cmp by_bytes q label) (finmap.get m q) (finmap.get m q) refl
    ∙ (λ i. cond (eq_by_cmp by_bytes q label) (Some (is i)) (kept q i))
    ∙ ap (cond (eq_by_cmp by_bytes q label) (Some w)) (sym (get-map_values f m q))
    ∙ sym (finmap.get-insert nat_list_cmp_total (map_values f m) label w q)) where
      either : (b : Bool) (o p : Option V) → o ≡ p → option_map g (cond b (Some v) o) ≡ cond b (Some (g v)) (option_map g p)
      either true o p e = refl
      either false o p e = ap (option_map g) e

-- the labels as a set
pub contains-label_set : (m : Labelled (Unit {0})) (q : List ℕ) → set.contains (label_set m) q ≡ finmap.contains_key m q
contains-label_set m q = set.contains-from_list nat_list_cmp_total (finmap.keys m) q ∙ sym (finmap.contains_key-keys m q)

same_numbers : (s t : NumberSet) → ((q : List ℕ) → set.contains s q ≡ set.contains t q) → s ≡ t
same_numbers s t same = set.same_set nat_list_cmp_total (set.slice_cmp-IsAntisymmetric set.nat_cmp-IsAntisymmetric) s t same

pub label_set-insert : (m : Labelled (Unit {0})) (label : List ℕ) → label_set (finmap.insert m label tt) ≡ set.insert (label_set m) label
label_set-insert m label = same_numbers _ _ (λ q.
    contains-label_set (finmap.insert m label tt) q
    ∙ ap is_some (finmap.get-insert nat_list_cmp_total m label tt q)
    ∙ either (eq_by_cmp by_bytes q label) (finmap.get m q)
    ∙ ap (λ b. eq_by_cmp by_bytes q label || b) (sym (contains-label_set m q))
    ∙ sym (set.contains-insert nat_list_cmp_total (label_set m) label q)) where
      either : (b : Bool) (o : Option (Unit {0})) → is_some (cond b (Some tt) o) ≡ (b || is_some o)
      either true o = refl
      either false o = refl

pub label_set-remove : (m : Labelled (Unit {0})) (label : List ℕ) → label_set (finmap.remove m label) ≡ set.remove (label_set m) label
label_set-remove m label = same_numbers _ _ (λ q.
    contains-label_set (finmap.remove m label) q
    ∙ ap is_some (finmap.get-remove nat_list_cmp_total m label q)
    ∙ either (eq_by_cmp by_bytes q label) (finmap.get m q)
    ∙ ap (λ b. not (eq_by_cmp by_bytes q label) && b) (sym (contains-label_set m q))
    ∙ sym (set.contains-remove nat_list_cmp_total (label_set m) label q)) where
      either : (b : Bool) (o : Option (Unit {0})) → is_some (cond b None o) ≡ (not b && is_some o)
      either true o = refl
      either false o = refl

pub label_set-empty : label_set finmap.empty ≡ set.empty
label_set-empty = same_numbers _ _ (λ q. contains-label_set finmap.empty q ∙ ap is_some (finmap.get-empty by_bytes q) ∙ sym (set.contains-empty by_bytes q))

-- of no label exactly where there is none
pub label_set-none : (m : Labelled (Unit {0})) → (finmap.len m ≡ 0) ↔ (label_set m ≡ set.empty)
label_set-none m = (none, some) where
  none : finmap.len m ≡ 0 → label_set m ≡ set.empty
  none is = ap label_set (finmap.empty_of_len m is) ∙ label_set-empty

  absent : (o : Option (Unit {0})) → is_some o ≡ false → o ≡ None
  absent None h = refl
  absent (Some x) h = cc

  some : label_set m ≡ set.empty → finmap.len m ≡ 0
  some is =
      ap finmap.len (same_labelled m finmap.empty (λ q. absent (finmap.get m q) (sym (contains-label_set m q) ∙ ap (λ s. set.contains s q) is ∙ set.contains-empty by_bytes q) ∙ sym (finmap.get-empty by_bytes q)))
      ∙ finmap.len-empty by_bytes (Unit {0})

-- a piece more leaves what the labels stand for
kept_pieces : (old new piece : List ℕ) (place : Extent) → IsAppended old new piece place → (o : Option Extent) → ForSome o (IsPlace (length old)) → option_map (piece_at new) o ≡ option_map (piece_at old) o
kept_pieces old new piece place appended None placed = refl
kept_pieces old new piece place appended (Some p) placed = ap (λ bytes. Some bytes) (appended.kept p (placed p refl))

still_placed : (old new piece : List ℕ) (place : Extent) → IsAppended old new piece place → (b : Bool) (o : Option Extent) → ForSome o (IsPlace (length old)) → ForSome (cond b (Some place) o) (IsPlace (length new))
still_placed old new piece place appended true o placed = λ p is. let same : place ≡ p = cc in subst (IsPlace (length new)) same appended.within
still_placed old new piece place appended false o placed = λ p is. appended.still p (placed p is)

module _ (old new piece : List ℕ) (place : Extent) (appended : IsAppended old new piece place) where
  -- a cell at its place, and the label with the place
  pub cell_placed : (blocks : ℕ) (labels after : Labelled Extent) (places : List Extent) (label : List ℕ) → ArePlaced (length old) blocks labels places → after ≡ finmap.insert labels label place → ArePlaced (length new) blocks after places
  cell_placed blocks labels after places label ok is = record {
    cells = λ q. subst (λ o. ForSome o (IsPlace (length new))) (sym (ap (λ m. finmap.get m q) is ∙ finmap.get-insert nat_list_cmp_total labels label place q)) (still_placed old new piece place appended (eq_by_cmp by_bytes q label) (finmap.get labels q) (ok.cells q));
    blocks = ok.blocks;
  }

  pub cell_inserted : (blocks : ℕ) (labels after : Labelled Extent) (places : List Extent) (label : List ℕ) → ArePlaced (length old) blocks labels places → after ≡ finmap.insert labels label place → map_values (piece_at new) after ≡ finmap.insert (map_values (piece_at old) labels) label piece
  cell_inserted blocks labels after places label ok is =
      ap (map_values (piece_at new)) is
      ∙ map_values-insert (piece_at old) (piece_at new) labels label place piece appended.there (λ q. kept_pieces old new piece place appended (finmap.get labels q) (ok.cells q))

  -- a block after the others
  pub block_placed : (cells : ℕ) (labels : Labelled Extent) (places : List Extent) → ArePlaced cells (length old) labels places → ArePlaced cells (length new) labels (places ++ place ∷ [])
  block_placed cells labels places ok = record {
    cells = ok.cells;
    blocks = All-append (IsPlace (length new)) places (place ∷ []) (All-weaker (IsPlace (length old)) (IsPlace (length new)) appended.still places ok.blocks) (All-cons (IsPlace (length new)) place [] appended.within (λ k d lt. absurd (omega arith)));
  }

  same_pieces : (places : List Extent) → All (IsPlace (length old)) places → map (piece_at new) places ≡ map (piece_at old) places
  same_pieces [] ok = refl
  same_pieces (p ∷ ps) ok = λ i. appended.kept p (All-head (IsPlace (length old)) p ps ok) i ∷ same_pieces ps (All-tail (IsPlace (length old)) p ps ok) i

  pub block_pushed : (places : List Extent) → All (IsPlace (length old)) places → map (piece_at new) (places ++ place ∷ []) ≡ map (piece_at old) places ++ piece ∷ []
  block_pushed places ok = map-append (piece_at new) places (place ∷ []) ∙ (λ i. same_pieces places ok i ++ appended.there i ∷ [])

-- tables of which one part changes: what stands after their fields, and what a contract says of it
module _ (dictionary additions : CellMap) (array : List (List ℕ)) (revoked : NumberSet) (room : Room) (view : TablesView) (is : record { contents = record { dictionary = dictionary; array = array; additions = additions; revoked = revoked }; room = room } ≡ view) where
  pub changed_dictionary : (f : CellMap → CellMap) (new : CellMap) → new ≡ f dictionary → record { dictionary = new; array = array; additions = additions; revoked = revoked } ≡ record view.contents { dictionary = f view.contents.dictionary }
  changed_dictionary f new new_is =
      (λ i. record { dictionary = new_is i; array = array; additions = additions; revoked = revoked }) ∙ ap (λ t. record t.contents { dictionary = f t.contents.dictionary }) is

  pub changed_array : (f : List (List ℕ) → List (List ℕ)) (new : List (List ℕ)) → new ≡ f array → record { dictionary = dictionary; array = new; additions = additions; revoked = revoked } ≡ record view.contents { array = f view.contents.array }
  changed_array f new new_is =
      (λ i. record { dictionary = dictionary; array = new_is i; additions = additions; revoked = revoked }) ∙ ap (λ t. record t.contents { array = f t.contents.array }) is

  pub changed_revoked : (f : NumberSet → NumberSet) (new : NumberSet) → new ≡ f revoked → record { dictionary = dictionary; array = array; additions = additions; revoked = new } ≡ record view.contents { revoked = f view.contents.revoked }
  changed_revoked f new new_is =
      (λ i. record { dictionary = dictionary; array = array; additions = additions; revoked = new_is i }) ∙ ap (λ t. record t.contents { revoked = f t.contents.revoked }) is

-- tables of nothing
module _ (labels : Labelled Extent) (places : List Extent) (no_labels : labels ≡ finmap.empty) (no_places : places ≡ []) where
  pub nothing_held : (cells blocks : List ℕ) (additions : CellMap) (revoked : Labelled (Unit {0})) → additions ≡ finmap.empty → revoked ≡ finmap.empty → record { dictionary = map_values (piece_at cells) labels; array = map (piece_at blocks) places; additions = additions; revoked = label_set revoked } ≡ no_contents
  nothing_held cells blocks additions revoked no_additions no_numbers =
      (λ i. record { dictionary = map_values (piece_at cells) (no_labels i); array = map (piece_at blocks) (no_places i); additions = no_additions i; revoked = label_set (no_numbers i) })
      ∙ (λ i. record { dictionary = map_values-empty (piece_at cells) i; array = []; additions = finmap.empty; revoked = label_set-empty i })

  pub nothing_placed : (cells blocks : ℕ) → ArePlaced cells blocks labels places
  nothing_placed cells blocks = record {
    cells = λ q p there. absurd (some_none p (sym there ∙ ap (λ m. finmap.get m q) no_labels ∙ finmap.get-empty by_bytes q));
    blocks = subst (λ ps. All (IsPlace blocks) ps) (sym no_places) (λ k d lt. absurd (omega arith));
  } where
    some_none : (p : Extent) → Some p ≡ None → ⊥
    some_none p e = cc

pub is_absent : {V : Type 0} (o : Option V) → is_some o ≡ false → o ≡ None
is_absent None h = refl
is_absent (Some x) h = cc

pub unmapped : {V W : Type 0} (f : V → W) (o : Option V) → option_map f o ≡ None → o ≡ None
unmapped f None h = refl
unmapped f (Some x) h = cc

pub none_copied : {A : Type 0} (o : Option (Bor A)) → is_some o ≡ false → option_copied o ≡ None
none_copied None h = refl
none_copied (Some x) h = cc
