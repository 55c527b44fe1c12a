-- The table of sheets, one an epoch.
use Rattle.std.specs.Prelude.{◌==◌, List, [], ◌∷◌, if◌then◌else◌}
use Rattle.client_registry.specs.Run.{Run, Offsets}
use Rattle.client_registry.specs.Sized.{run_words}
use Rattle.leakage_names.specs.Sheets.{Values}
use Rattle.leakage_draws.specs.Given.{sheet_table}
use Rattle.sse_model.specs.Names.{Table}

-- a name has the value that the sheet of its epoch gives it, and nothing where no epoch or no sheet is its own
abbrev pub sheets_table : List Values → List (Offsets × Run) → Table
sheets_table (v ∷ vs) (e ∷ es) n = if n.epoch == e.0.epoch then sheet_table v (run_words e.1) n else sheets_table vs es n
sheets_table _ _ n = []
