-- Names taken one after another, each at its first place only, and a table that marks them.
use Rattle.std.specs.Prelude.{◌≡◌, Bool, List, [], ◌∷◌, ◌++◌, fold, bytes_eq, is_some, if◌then◌else◌}
use Rattle.std.specs.List.{list_any}
use Rattle.leakage_names.specs.Keys.{key_of}
use Rattle.leakage_names.specs.Sheets.{Values, value_at}
use Rattle.leakage_names.specs.declared.name.Name.{Name}

-- whether two names are made of the same numbers
abbrev pub same_numbers : Name → Name → Bool
same_numbers x y = bytes_eq (key_of x) (key_of y)

-- these names and one more, where it isn't one of them
abbrev pub with_name : List Name → Name → List Name
with_name names name = if list_any (same_numbers name) names then names else names ++ name ∷ []

-- these names and those of others that aren't among them, one after the other
abbrev pub with_names : List Name → List Name → List Name
with_names names more = fold with_name names more

-- a table has a value for each of these names and for no other
abbrev pub Marks : Values → List Name → Type 0
Marks seen names = (n : Name) → is_some (value_at seen n) ≡ list_any (same_numbers n) names
