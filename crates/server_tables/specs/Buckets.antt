-- The map of the entries of a hash table.
use Rattle.std.specs.Prelude.{ℕ, List, map}
use Rattle.std.specs.FinMap as finmap
use Rattle.server_tables.specs.declared.key.Key.{Key}
use Rattle.server_tables.specs.Labelled.{Labelled}

-- the label and the value of an entry
abbrev pub entry_of : {V : Type 0} → Key × V → List ℕ × V
entry_of entry = (entry.0.0, entry.1)

-- no two entries have one label
abbrev pub map_of : {V : Type 0} → List (Key × V) → Labelled V
map_of entries = finmap.from_entries (map entry_of entries)
