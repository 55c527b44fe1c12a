use Rattle.std.proofs.Common.{ap, subst, ◌∙◌, arith}
use Rattle.keyed_fn.specs.KeyedFn.{keyed_fn}
use Rattle.script_run_texts.specs.Causes.{SinkCause, SourceCause}
use Rattle.script_run_texts.specs.Stops.{stop_cause, stop_status}
use Rattle.sse_outside.specs.Causes.{Rose}
use Rattle.script_history.specs.Endings.{stop_for}
use Rattle.script_history.proofs.Ended.{ends_told, source_same, status_told}
use Rattle.sse_leaks.proofs.LeaksPrinted.{has_told}
use Rattle.sse_leaks.proofs.leak_report.leaks_run.Goals as goal

pub returns-in-Err-clause-tells : goal.returns-in-Err-clause-tells
returns-in-Err-clause-tells g c =
    let stop = c.in-Err.stop in
    let sink = c.args.sink.now in
    let mid = c.tell_script.new.sink in
    let last = c.finish.new.sink in
    has_told (keyed_fn g.K.Keyed.prf g.K.Keyed.pad) (g.S.Source.remaining c.args.source.now) (g.W.Sink.written sink) (g.W.Sink.written mid) (g.W.Sink.written last) (g.W.Sink.faults sink) (g.W.Sink.faults last) (g.W.Sink.shortages sink) (g.W.Sink.shortages last) (stop_for (stop_cause stop)) c.finish.result
    c.in-Err.ensures.tells
    (ends_told stop (g.W.Sink.written sink) (g.W.Sink.written mid) (g.W.Sink.written last) (g.W.Sink.faults sink) (g.W.Sink.faults mid) (g.W.Sink.faults last) (g.W.Sink.shortages sink) (g.W.Sink.shortages mid) (g.W.Sink.shortages last) c.finish.ensures.line c.in-Err.ensures.sink.cause c.tell_script.ensures.sink.no_fewer)
    (status_told stop c.finish.result c.finish.ensures.status)

pub returns-in-Err-clause-source_failed : goal.returns-in-Err-clause-source_failed
returns-in-Err-clause-source_failed g c = λ is.
    subst (SourceCause (g.S.Source.faults c.args.source.now) (g.S.Source.faults c.tell_script.new.source)) (c.finish.ensures.source is) c.in-Err.ensures.source.cause

pub returns-in-Err-clause-source_steady : goal.returns-in-Err-clause-source_steady
returns-in-Err-clause-source_steady g c = λ other.
    source_same (g.S.Source.faults c.args.source.now) (g.S.Source.faults c.tell_script.new.source) c.in-Err.stop c.in-Err.ensures.source.cause (λ e. other (c.finish.ensures.status ∙ ap stop_status e))

pub returns-in-Err-clause-sink_failed : goal.returns-in-Err-clause-sink_failed
returns-in-Err-clause-sink_failed g c = λ is.
    let rose : Rose (g.W.Sink.faults c.args.sink.now) (g.W.Sink.faults c.tell_script.new.sink) = subst (SinkCause (g.W.Sink.faults c.args.sink.now) (g.W.Sink.faults c.tell_script.new.sink)) (c.finish.ensures.sink is) c.in-Err.ensures.sink.cause in
    omega (arith, rose, c.finish.ensures.later)
