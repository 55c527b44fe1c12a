use Rattle.std.proofs.Common.{take}
use Rattle.std.specs.List.{AllZip}
use Rattle.def_relabelling.specs.Histories.{table_in}
use Rattle.keyed_fn.specs.KeyedFn.{keyed_fn}
use Rattle.leakage_history.specs.HashedEpochs.{epochs_in}
use Rattle.leakage_sheets.proofs.EpochSheets.{Gives, MarksNames}
use Rattle.leakage_values.specs.SheetOf.{listed_epochs}
use Rattle.leakage_sheets.proofs.epoch_sheets.sheets_of.Given as goal

abbrev pub invariant-loop-number : goal.invariant-loop-number
invariant-loop-number g l = record {
  values : AllZip (Gives (table_in (keyed_fn g.K.Keyed.prf g.K.Keyed.pad) l.key (epochs_in l.epochs))) l.sheets (take l.number (listed_epochs (epochs_in l.epochs)));
  names : AllZip MarksNames l.sheets (take l.number (listed_epochs (epochs_in l.epochs)));
}
