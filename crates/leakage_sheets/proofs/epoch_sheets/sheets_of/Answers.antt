use Rattle.std.proofs.Common.{◌<◌, length, subst, arith}
use Rattle.std.specs.List.{AllZip}
use Rattle.std.proofs.lemmas.List.{take_all}
use Rattle.client_registry.specs.Run.{at_first, last_run}
use Rattle.def_relabelling.specs.Histories.{table_in}
use Rattle.keyed_fn.specs.KeyedFn.{keyed_fn}
use Rattle.leakage_history.specs.HashedEpochs.{epochs_in}
use Rattle.leakage_values.specs.SheetOf.{listed_epochs}
use Rattle.leakage_sheets.proofs.EpochSheets.{Gives, MarksNames, one_more}
use Rattle.leakage_sheets.proofs.EpochTables.{length-runs}
use Rattle.leakage_sheets.proofs.epoch_sheets.sheets_of.Goals as goal

pub loop-number-preserved : goal.loop-number-preserved
loop-number-preserved g c =
    let es = epochs_in c.args.epochs.now in
    let t = table_in (keyed_fn g.K.Keyed.prf g.K.Keyed.pad) c.args.key.now es in
    let i = c.loop-number.number in
    let within : i < length (listed_epochs es) = omega (arith, c.loop-number-test.true, c.len-number-end.ensures.len, length-runs es) in
    record {
      values =
          one_more (Gives t) c.loop-number.sheets c.push.new.self c.in_ok-sheet_at.field-0 (listed_epochs es) i (at_first, last_run es) c.in_ok-push.ensures.ok within
          c.loop-number.invariant.values c.in_ok-sheet_at.ensures.values;
      names =
          one_more MarksNames c.loop-number.sheets c.push.new.self c.in_ok-sheet_at.field-0 (listed_epochs es) i (at_first, last_run es) c.in_ok-push.ensures.ok within
          c.loop-number.invariant.names c.in_ok-sheet_at.ensures.names;
    }

pub returns-clause-values : goal.returns-clause-values
returns-clause-values g c =
    let es = epochs_in c.args.epochs.now in
    subst (AllZip (Gives (table_in (keyed_fn g.K.Keyed.prf g.K.Keyed.pad) c.args.key.now es)) c.loop-number.sheets)
    (take_all c.loop-number.number (listed_epochs es) (omega (arith, c.loop-number-test.false, c.len-number-end.ensures.len, length-runs es)))
    c.loop-number.invariant.values

pub returns-clause-names : goal.returns-clause-names
returns-clause-names g c =
    let es = epochs_in c.args.epochs.now in
    subst (AllZip MarksNames c.loop-number.sheets)
    (take_all c.loop-number.number (listed_epochs es) (omega (arith, c.loop-number-test.false, c.len-number-end.ensures.len, length-runs es)))
    c.loop-number.invariant.names
