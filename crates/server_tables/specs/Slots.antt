-- The map of slots sorted by rising label, and the relation of a place among them to a label.
use Rattle.std.specs.Prelude.{◌≡◌, ℕ, ◌<◌, ◌≤◌, List, map, length, insert, remove, slice_index_or, Some, None, IsTrue}
use Rattle.std.specs.Ordering.{nat_cmp}
use Rattle.std.specs.Cmp.Lexicographic.{slice_cmp}
use Rattle.std.specs.FinMap as finmap
use Rattle.std.specs.FinMap.Entries.{is_sorted}
use Rattle.server_tables.specs.declared.sorted_map.Slot.{Slot}
use Rattle.server_tables.specs.Labelled.{Labelled}

-- the label and the value of a slot
abbrev pub entry_of : {V : Type 0} → Slot V → List ℕ × V
entry_of slot = (slot.label, slot.value)

abbrev pub map_of : {V : Type 0} → List (Slot V) → Labelled V
map_of slots = finmap.from_sorted (map entry_of slots)

abbrev pub AreRising : {V : Type 0} → List (Slot V) → Type 0
AreRising slots = IsTrue (is_sorted (slice_cmp nat_cmp) (map entry_of slots))

-- the label's slot is at this place, and to take it out is to remove the label
pub record IsAt {V : Type 0} (slots : List (Slot V)) (label : List ℕ) (at : ℕ) : Type 0 where
  pub within : at < length slots
  pub there : IsTrue (finmap.contains_key (map_of slots) label)
  pub found : (d : Slot V) → finmap.get (map_of slots) label ≡ Some (slice_index_or slots at d).value
  pub rising : AreRising (remove slots at)
  pub removed : map_of (remove slots at) ≡ finmap.remove (map_of slots) label

-- there is no such label, and to put a slot of it in at this place is to insert the label
pub record GoesTo {V : Type 0} (slots : List (Slot V)) (label : List ℕ) (at : ℕ) : Type 0 where
  pub within : at ≤ length slots
  pub absent : finmap.get (map_of slots) label ≡ None
  pub rising : (value : V) → AreRising (insert slots at (record { label = label; value = value }))
  pub inserted : (value : V) → map_of (insert slots at (record { label = label; value = value })) ≡ finmap.insert (map_of slots) label value
