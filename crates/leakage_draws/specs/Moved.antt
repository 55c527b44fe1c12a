-- A sheet that was moved from one run to another of equal leakage.
use Rattle.std.specs.Prelude.{map}
use Rattle.client_registry.specs.Run.{Run, Offsets}
use Rattle.client_registry.specs.Sized.{run_words}
use Rattle.def_comparison.specs.UsedNames as used
use Rattle.def_leakage.specs.Relabelled.{relabelled}
use Rattle.leakage_names.specs.Sheets.{Values}
use Rattle.leakage_values.specs.NamesOnce.{Marks}
use Rattle.leakage_values.specs.Numbered.{numbered}
use Rattle.leakage_values.specs.SheetOf.{IsSheetOf}
use Rattle.sse_model.specs.Names.{Table}
use Rattle.leakage_draws.specs.Given.{sheet_table}

pub record IsMoved (sheet : Values) (o : Offsets) (run other : Run) (moved : Values) : Type 0 where
  -- it has for the other run the values of every table that is relabelled from one whose values the sheet has
  pub values : (t : Table) → IsSheetOf sheet (run_words run) (used.names o run) t → IsSheetOf moved (run_words other) (used.names o other) (relabelled o run other t)
  -- no other name has one
  pub names : Marks moved (map (numbered (run_words other)) (used.names o other))
  -- the sheet has a value for each name that the first run uses
  pub whole : IsSheetOf sheet (run_words run) (used.names o run) (sheet_table sheet (run_words run))
