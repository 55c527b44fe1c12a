-- Sheets that have the values of a table: one for a run, and one for each epoch of a history.
use Rattle.std.specs.Prelude.{◌≡◌, ℕ, List, [], ◌∷◌, map, Some, Contains}
use Rattle.std.specs.List.{AllZip}
use Rattle.client_registry.specs.Epochs.{joined}
use Rattle.client_registry.specs.Run.{Run, Offsets, Epochs}
use Rattle.client_registry.specs.Sized.{run_words}
use Rattle.leakage_values.specs.NamesOnce.{Marks}
use Rattle.leakage_values.specs.Numbered.{numbered}
use Rattle.leakage_names.specs.Sheets.{Values, value_at}
use Rattle.def_comparison.specs.UsedNames.{names}
use Rattle.sse_model.specs.Names.{Name, Table}

-- it gives each of these names the value that the table has for it, where these are the words by their numbers
abbrev pub IsSheetOf : Values → (words : List (List ℕ)) → (names : List Name) → Table → Type 0
IsSheetOf values words names t = (n : Name) → Contains names n → value_at values (numbered words n) ≡ Some (t n)

-- an epoch: where it begins, and its run
abbrev pub listed_epochs : Epochs → List (Offsets × Run)
listed_epochs es = joined (λ key o run. (o, run) ∷ []) [] es

-- one sheet an epoch, each with the values that the table has for the names of its epoch
abbrev pub AreSheetsIn : List Values → Epochs → Table → Type 0
AreSheetsIn values es t = AllZip (λ v (e : Offsets × Run). IsSheetOf v (run_words e.1) (names e.0 e.1) t) values (listed_epochs es)

-- one sheet an epoch, each with a value for the names of its epoch and for no other
abbrev pub MarkNamesIn : List Values → Epochs → Type 0
MarkNamesIn values es = AllZip (λ v (e : Offsets × Run). Marks v (map (numbered (run_words e.1)) (names e.0 e.1))) values (listed_epochs es)
