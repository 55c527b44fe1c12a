-- A table that has the values of certain names and no other.
use Rattle.std.specs.Prelude.{◌≡◌, ℕ, List, None, Some, if◌then◌else◌}
use Rattle.std.specs.List.{list_any}
use Rattle.leakage_values.specs.NamesOnce.{same_numbers}
use Rattle.leakage_names.specs.Sheets.{Values, value_at}
use Rattle.leakage_names.specs.declared.name.Name.{Name}

-- it gives each of these names what the function gives it, and any other none
abbrev pub Holds : Values → List Name → (Name → List ℕ) → Type 0
Holds sheet names value = (n : Name) → value_at sheet n ≡ (if list_any (same_numbers n) names then Some (value n) else None)
