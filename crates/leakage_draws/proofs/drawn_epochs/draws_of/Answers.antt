use Rattle.std.proofs.Common.{◌++◌, sym, ◌∙◌, arith}
use Rattle.client_registry.specs.Run.{Run}
use Rattle.client_registry.specs.Sized.{run_words}
use Rattle.leakage_history.specs.HashedEpochs.{epochs_in}
use Rattle.leakage_history.specs.HashedRun.{run_of}
use Rattle.leakage_history.proofs.EpochLists.{IsHistory-epoch, begins_at, epochs_within, listed}
use Rattle.def_leakage.specs.DrawnValues.{draws}
use Rattle.leakage_draws.proofs.SheetDraws.{draws-sheet}
use Rattle.leakage_draws.proofs.SheetsAt.{draws-own_sheet, epoch_is, made-all, made-more, sheet_is}
use Rattle.leakage_draws.specs.SheetsTable.{sheets_table}
use Rattle.leakage_draws.proofs.drawn_epochs.draws_of.Goals as goal

pub epoch-history-requires : goal.epoch-history-requires
epoch-history-requires c = omega (arith, c.loop-number-test.true, c.len-number-end.ensures.len)

pub overflow_cast-number : goal.overflow_cast-number
overflow_cast-number c = omega (arith, c.loop-number-test.true, c.len-number-end.ensures.len, epochs_within (epochs_in c.args.epochs.now), c.requires)

pub push_draws-requires : goal.push_draws-requires
push_draws-requires c =
    (IsHistory-epoch (epochs_in c.args.epochs.now) c.loop-number.number (run_of c.epoch-history.result.now) c.len-number-end.ensures.valid c.epoch-history.ensures).setup

pub loop-number-preserved : goal.loop-number-preserved
loop-number-preserved c =
    let es = epochs_in c.args.epochs.now in
    let i = c.loop-number.number in
    let run : Run = run_of c.epoch-history.result.now in
    let o = begins_at es i in
    let at = c.epoch-history.ensures in
    let whole = c.len-number-end.ensures.whole in
    let values = c.args.sheets.now in
    let sheet = c.in_ok-sheet.sheet.now in
    let had = c.loop-number.invariant in
    let pushed = c.in_ok-push_draws.ensures o (epoch_is es whole i run at) in
    record {
      own =
          pushed
          ∙ (λ j. had.own j ++ draws-own_sheet es whole i run at values sheet c.in_ok-sheet.ensures j)
          ∙ sym (made-more (draws (sheets_table values (listed es))) es i run at);
      agreed = λ t are.
          pushed
          ∙ (λ j. had.agreed t are j ++ draws-sheet sheet (run_words run) o run t (sheet_is es whole i run at values sheet c.in_ok-sheet.ensures t are) j)
          ∙ sym (made-more (draws t) es i run at);
    }

pub returns-clause-own : goal.returns-clause-own
returns-clause-own c =
    let es = epochs_in c.args.epochs.now in
    c.loop-number.invariant.own ∙ made-all (draws (sheets_table c.args.sheets.now (listed es))) es c.loop-number.number (omega (arith, c.loop-number-test.false, c.len-number-end.ensures.len))

pub returns-clause-agreed : goal.returns-clause-agreed
returns-clause-agreed c = λ t are.
    let es = epochs_in c.args.epochs.now in
    c.loop-number.invariant.agreed t are ∙ made-all (draws t) es c.loop-number.number (omega (arith, c.loop-number-test.false, c.len-number-end.ensures.len))
