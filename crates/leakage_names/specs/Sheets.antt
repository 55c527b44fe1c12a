-- A table of values by name, and the value that it gives a name.
use Rattle.std.specs.Prelude.{ℕ, List, Option, map, bytes_eq}
use Rattle.std.specs.Map.{lookup}
use Rattle.leakage_names.specs.Keys.{key_of}
use Rattle.leakage_names.specs.declared.name.Name.{Name}
use Rattle.leakage_names.specs.declared.sheet.Sheet.TheInside.{Inside}

-- the numbers of a name and its value, for each name that has one
abbrev pub Values : Type 0
Values = List (List ℕ × List ℕ)

-- the value of a name, if it has one
abbrev pub value_at : Values → Name → Option (List ℕ)
value_at values name = lookup (bytes_eq (key_of name)) values

-- what contracts see of a table
abbrev pub values_of : Inside → Values
values_of sheet = map (λ entry. (entry.0, entry.1.items)) sheet.values.entries
