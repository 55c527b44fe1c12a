use Rattle.std.proofs.Common.{◌≡◌, length}
use Rattle.leakage_history.specs.HashedEpochs.{epochs_in}
use Rattle.leakage_draws.proofs.MovedLaws.{AreMoved}
use Rattle.leakage_draws.proofs.moved_tables.moved_sheets.Given as goal

abbrev pub invariant-loop-i : goal.invariant-loop-i
invariant-loop-i l = record {
  many : length l.all ≡ l.i;
  moved : AreMoved l.sheets (epochs_in l.epochs) (epochs_in l.other) l.all;
}
