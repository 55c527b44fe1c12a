use Rattle.std.proofs.Common.{◌≡◌, map, take}
use Rattle.std.specs.Prelude.{flat_map}
use Rattle.leakage_history.specs.HashedEpochs.{epochs_in}
use Rattle.leakage_history.proofs.EpochLists.{listed}
use Rattle.leakage_values.specs.SheetOf.{AreSheetsIn}
use Rattle.leakage_frames.specs.Views.{draw_view}
use Rattle.def_leakage.specs.DrawnValues.{draws}
use Rattle.sse_model.specs.Names.{Table}
use Rattle.leakage_draws.proofs.SheetsAt.{made_of}
use Rattle.leakage_draws.specs.SheetsTable.{sheets_table}
use Rattle.leakage_draws.proofs.drawn_epochs.draws_of.Given as goal

abbrev pub invariant-loop-number : goal.invariant-loop-number
invariant-loop-number l =
    let es = epochs_in l.epochs in
    record {
      own : map (map draw_view) l.all ≡ flat_map (made_of (draws (sheets_table l.sheets (listed es))) es) (take l.number (listed es));
      agreed : (t : Table) → AreSheetsIn l.sheets es t → map (map draw_view) l.all ≡ flat_map (made_of (draws t) es) (take l.number (listed es));
    }
