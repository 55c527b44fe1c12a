use Rattle.std.proofs.Common.{refl, subst, ◌∙◌}
use Rattle.leakage_history.specs.HashedEpochs.{epochs_in}
use Rattle.script_run_texts.specs.Stops.{stop_of_sink}
use Rattle.script_run_texts.specs.declared.stop_cause.StopCause.TheVariants as stops
use Rattle.sse_outside.specs.Fronts.{TookFront}
use Rattle.script_history.proofs.ReadingGoesOn.{IfErr-from}
use Rattle.script_history.proofs.Ended.{told-fault}
use Rattle.sse_leaks.proofs.LeaksPrinted.{none_told}
use Rattle.sse_leaks.proofs.leak_report.print_leaks.Goals as goal

pub returns-in_err-text-clause-stops : goal.returns-in_err-text-clause-stops
returns-in_err-text-clause-stops g c =
    IfErr-from c.from_residual.result stops.Memory _ c.from_residual.ensures.1 (none_told (epochs_in c.args.epochs.now) (g.W.Sink.written c.args.sink.now) _ refl)

pub returns-in_err-print_all-clause-stops : goal.returns-in_err-print_all-clause-stops
returns-in_err-print_all-clause-stops g c =
    let fault = c.in_err-print_all.field-0.0 in
    IfErr-from c.from_residual-in_err-print_all.result (stop_of_sink fault) _ c.from_residual-in_err-print_all.ensures.1 (record {
      printed = subst (TookFront (g.W.Sink.written c.args.sink.now) (g.W.Sink.written c.print_all.new.sink)) (c.as_bytes.ensures.value ∙ c.in_ok-text.ensures) c.in_err-print_all.ensures.front;
      stops = told-fault fault;
    })
