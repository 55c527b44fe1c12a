use Rattle.std.proofs.Common.{◌≡◌, take}
use Rattle.std.specs.Prelude.{flat_map}
use Rattle.leakage_history.specs.HashedEpochs.{epochs_in}
use Rattle.leakage_history.proofs.EpochLists.{listed}
use Rattle.leakage_values.specs.SheetOf.{AreSheetsIn}
use Rattle.def_comparison.specs.Sums.{value_sum}
use Rattle.def_comparison.specs.UsedNames.{names}
use Rattle.sse_model.specs.Names.{Table}
use Rattle.leakage_draws.proofs.SheetsAt.{made_of}
use Rattle.leakage_draws.proofs.counted.sum_in.Given as goal

abbrev pub invariant-loop-number : goal.invariant-loop-number
invariant-loop-number l =
    let es = epochs_in l.epochs in
    (t : Table) → AreSheetsIn l.sheets es t → l.total ≡ value_sum t (flat_map (made_of names es) (take l.number (listed es)))
