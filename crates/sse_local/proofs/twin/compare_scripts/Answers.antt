use Rattle.std.specs.Prelude.{Ok}
use Rattle.script_history.specs.Endings.{ending, stop_for}
use Rattle.script_history.specs.Reads.{Stopped}
use Rattle.script_history.specs.Turns.{first_end}
use Rattle.script_history.specs.TwoScripts.{behind_twin}
use Rattle.keyed_fn.specs.KeyedFn.{keyed_fn}
use Rattle.script_run_texts.specs.Stops.{stop_cause}
use Rattle.script_run_texts.specs.declared.stop_cause.StopCause.TheVariants as stops
use Rattle.sse_script.specs.TextLines.{lines_left, lines_of}
use Rattle.sse_local.proofs.Compared.{are-behind, compared-so, left-first, none-compared, stopped-compared, stopped-first}
use Rattle.sse_local.proofs.twin.compare_scripts.Goals as goal

pub returns-in_err-input-clause-compared : goal.returns-in_err-input-clause-compared
returns-in_err-input-clause-compared g c =
    stopped-compared (keyed_fn g.K.Keyed.prf g.K.Keyed.pad) (g.S.Source.remaining c.args.source.now) (g.W.Sink.written c.args.sink.now) (g.W.Sink.written c.args.sink.now) c.from_residual.result stops.Memory c.from_residual.ensures.1
    (none-compared (keyed_fn g.K.Keyed.prf g.K.Keyed.pad) (g.S.Source.remaining c.args.source.now) (g.W.Sink.written c.args.sink.now))

pub returns-in-Ok-clause-compared : goal.returns-in-Ok-clause-compared
returns-in-Ok-clause-compared g c =
    let remaining = g.S.Source.remaining c.args.source.now in
    let input = c.in_ok-input.input in
    let left = lines_left c.read_first.new.input.pending (g.S.Source.remaining c.read_first.new.source) in
    compared-so (keyed_fn g.K.Keyed.prf g.K.Keyed.pad) remaining input.number input.pending (g.W.Sink.written c.args.sink.now) (g.W.Sink.written c.read_first.new.sink) (g.W.Sink.written c.behind_first.new.sink) (first_end (Ok c.in-Ok.first)) (ending c.behind_first.result)
    c.in_ok-input.ensures.number c.in_ok-input.ensures.pending c.in-Ok.ensures.reads
    (λ bytes is.
    c.behind_first.ensures.goes_on (behind_twin (lines_of bytes))
    (are-behind c.in-Ok.first.at_twin (lines_of bytes) (lines_left input.pending remaining) left _ _ (left-first input.number input.pending bytes remaining c.in_ok-input.ensures.pending is) c.in-Ok.ensures.ended))

pub returns-clause-compared : goal.returns-clause-compared
returns-clause-compared g c =
    let remaining = g.S.Source.remaining c.args.source.now in
    let input = c.in_ok-input.input in
    let cause = stop_cause c.in-Err.stop in
    compared-so (keyed_fn g.K.Keyed.prf g.K.Keyed.pad) remaining input.number input.pending (g.W.Sink.written c.args.sink.now) (g.W.Sink.written c.read_first.new.sink) (g.W.Sink.written c.read_first.new.sink) (Stopped cause) (stop_for cause)
    c.in_ok-input.ensures.number c.in_ok-input.ensures.pending c.in-Err.ensures.reads
    (λ bytes is. stopped-first (keyed_fn g.K.Keyed.prf g.K.Keyed.pad) (behind_twin (lines_of bytes)) cause (g.W.Sink.written c.read_first.new.sink))
