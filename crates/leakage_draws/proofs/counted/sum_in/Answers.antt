use Rattle.std.proofs.Common.{take, sym, ap, ◌∙◌, arith}
use Rattle.std.specs.Prelude.{flat_map}
use Rattle.client_registry.specs.Run.{Run}
use Rattle.client_registry.specs.Sized.{run_words}
use Rattle.leakage_history.specs.HashedEpochs.{epochs_in}
use Rattle.leakage_history.specs.HashedRun.{run_of}
use Rattle.leakage_history.proofs.EpochLists.{IsHistory-epoch, begins_at, epochs_within, listed}
use Rattle.def_comparison.specs.Sums.{value_sum}
use Rattle.def_comparison.specs.UsedNames.{names}
use Rattle.leakage_draws.proofs.EpochNames.{names_in-epochs}
use Rattle.leakage_draws.proofs.SheetsAt.{epoch_is, made-all, made-more, made_of, sheet_is}
use Rattle.leakage_draws.proofs.SumLaws.{values-more}
use Rattle.leakage_draws.proofs.counted.sum_in.Goals as goal

pub epoch-requires : goal.epoch-requires
epoch-requires c = omega (arith, c.loop-number-test.true, c.len-number-end.ensures.len)

pub overflow_cast-number : goal.overflow_cast-number
overflow_cast-number c = omega (arith, c.loop-number-test.true, c.len-number-end.ensures.len, epochs_within (epochs_in c.args.epochs.now), c.requires)

pub used_names-requires : goal.used_names-requires
used_names-requires c =
    (IsHistory-epoch (epochs_in c.args.epochs.now) c.loop-number.number (run_of c.epoch.result.now) c.len-number-end.ensures.valid c.epoch.ensures).setup

pub loop-number-preserved : goal.loop-number-preserved
loop-number-preserved c = λ t are.
    let es = epochs_in c.args.epochs.now in
    let i = c.loop-number.number in
    let run : Run = run_of c.epoch.result.now in
    let o = begins_at es i in
    let at = c.epoch.ensures in
    let whole = c.len-number-end.ensures.whole in
    let sheet = c.in_ok-sheet.sheet.now in
    values-more sheet (run_words run) (flat_map (made_of names es) (take i (listed es))) (names o run) c.as_slice.result.now t c.loop-number.total _
    (sheet_is es whole i run at c.args.sheets.now sheet c.in_ok-sheet.ensures t are)
    (c.as_slice.ensures ∙ c.in_ok-names.ensures o (epoch_is es whole i run at))
    (c.loop-number.invariant t are)
    c.in_ok-total.ensures
    ∙ ap (value_sum t) (sym (made-more names es i run at))

pub returns : goal.returns
returns c = λ t are.
    let es = epochs_in c.args.epochs.now in
    c.loop-number.invariant t are
    ∙ ap (value_sum t) (made-all names es c.loop-number.number (omega (arith, c.loop-number-test.false, c.len-number-end.ensures.len)) ∙ sym (names_in-epochs es))
