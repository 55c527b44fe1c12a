use Rattle.std.proofs.Common.{◌||◌, ◌+◌, inl, Some, Err, rules, refl, sym, ap, ◌∙◌, subst, arith}
use Rattle.keyed_fn.specs.KeyedFn.{keyed_fn}
use Rattle.script_run_texts.specs.Causes.{LinkCause, RecorderCause, SourceCause}
use Rattle.script_run_texts.specs.Stops.{stop_of_sink}
use Rattle.script_run_texts.specs.declared.stop_cause.StopCause.TheVariants as stops
use Rattle.sse_script.specs.Views.{line_view}
use Rattle.sse_script.specs.declared.line.Line.{Line}
use Rattle.def_script_meaning.proofs.Steps.{IsBad}
use Rattle.def_script_meaning.specs.Lines.{line_read}
use Rattle.def_script_meaning.specs.Runs.{moment}
use Rattle.sse_script.specs.TextLines.{lines_left}
use Rattle.sse_client.specs.Calls.{shows}
use Rattle.sse_client.specs.Stands.{EndsFrom, has_refused, outside_of, seen, stop_view}
use Rattle.sse_client.proofs.CountsAtStop.{LinkCause-printed, RecorderCause-printed, SinkCause-printed, SourceCause-printed}
use Rattle.sse_client.proofs.TranscriptsJoined.{KeepsLink-err, KeepsRecorder-err, KeepsSink-err, KeepsSource-err}
use Rattle.sse_client.proofs.RunGoesOn.{line_in-read, line_in-none, command_of, ends-bad, ends-input, ends-end, ends-stopped, carries-printed, leads-stopped, stops-unprinted, there-empty, there-next, there-start}
use Rattle.sse_client.specs.RecordKept.{WholeAtStop}
use Rattle.sse_client.proofs.RecordsLast.{StaysWhole-err, whole_at_stop}
use Rattle.client_recorder.proofs.GrownRecords.{keeps-same}
use Rattle.sse_client.proofs.lines.take_turn.Goals as goal

pub returns-in-Err-clause-turns : goal.returns-in-Err-clause-turns
returns-in-Err-clause-turns g c = λ place at.
    let f = keyed_fn g.K.Keyed.prf g.K.Keyed.pad in
    ends-input f _ c.args.session.stage c.args.session.input.number _ (has_refused c.args.session.refusals) _ (there-start f place c.args.session.stage c.args.session.input.number _ (has_refused c.args.session.refusals) _ at) _ c.in-Err.stop
    (λ m e. c.in-Err.ensures.too_long m (search e)) (λ m e. let n = c.in-Err.ensures.counted_long m (search e) in omega (arith, n, c.requires.few))

pub returns-then-not-more-clause-turns : goal.returns-then-not-more-clause-turns
returns-then-not-more-clause-turns g c = λ place at.
    let f = keyed_fn g.K.Keyed.prf g.K.Keyed.pad in
    ends-end f _ c.args.session.stage c.args.session.input.number _ (has_refused c.args.session.refusals) _ (there-start f place c.args.session.stage c.args.session.input.number _ (has_refused c.args.session.refusals) _ at) (c.in-Ok.ensures.end (search rules))

pub returns-in-Err-line-clause-turns : goal.returns-in-Err-line-clause-turns
returns-in-Err-line-clause-turns g c = λ place at.
    let f = keyed_fn g.K.Keyed.prf g.K.Keyed.pad in
    let text = c.advance.new.self.line in
    let old = outside_of (seen (g.L.Link.transcript c.args.link.now) (g.R.Recorder.kept c.args.recorder.now)) (g.W.Sink.written c.args.sink.now) in
    subst (λ stop. EndsFrom f (moment place (c.args.session.input.number + 1) (lines_left c.args.session.input.pending (g.S.Source.remaining c.args.source.now)) (has_refused c.args.session.refusals) old) old (stop_view (stops.Input stop))) (sym c.in-Err-line.ensures.bad)
    (ends-bad f _ c.args.session.stage c.args.session.input.number _ (has_refused c.args.session.refusals) _ (there-start f place c.args.session.stage c.args.session.input.number _ (has_refused c.args.session.refusals) _ at) _ text c.advance.new.self.number (c.in-Ok.ensures.line (search rules))
    (subst IsBad (sym (line_in-none text (sym c.in-Err-line.ensures.read))) tt) (omega (arith, c.in-Ok.ensures.counted, c.requires.few)))

pub returns-in-Empty-clause-turns : goal.returns-in-Empty-clause-turns
returns-in-Empty-clause-turns g c = λ place at.
    let f = keyed_fn g.K.Keyed.prf g.K.Keyed.pad in
    let text = c.advance.new.self.line in
    there-empty f _ c.args.session.stage c.args.session.input.number _ (has_refused c.args.session.refusals) _ (there-start f place c.args.session.stage c.args.session.input.number _ (has_refused c.args.session.refusals) _ at) _ text c.advance.new.self.number (c.in-Ok.ensures.line (search rules))
    (line_in-read c.in-Ok-line.line text c.in-Ok-line.ensures.read ∙ ap (λ (line : Line). Some (line_read (line_view line))) c.in-Empty.is) (omega (arith, c.in-Ok.ensures.counted, c.requires.few))

pub returns-in-Key-clause-turns : goal.returns-in-Key-clause-turns
returns-in-Key-clause-turns g c = λ place at.
    let f = keyed_fn g.K.Keyed.prf g.K.Keyed.pad in
    let text = c.advance.new.self.line in
    ends-bad f _ c.args.session.stage c.args.session.input.number _ (has_refused c.args.session.refusals) _ (there-start f place c.args.session.stage c.args.session.input.number _ (has_refused c.args.session.refusals) _ at) _ text c.number-number.result (c.in-Ok.ensures.line (search rules))
    (subst IsBad (sym (line_in-read c.in-Ok-line.line text c.in-Ok-line.ensures.read ∙ ap (λ (line : Line). Some (line_read (line_view line))) c.in-Key.is)) tt)
    (omega (arith, c.in-Ok.ensures.counted, c.requires.few, c.number-number.ensures))

pub returns-in_err-next-in_default-clause-turns :
    goal.returns-in_err-next-in_default-clause-turns
returns-in_err-next-in_default-clause-turns g c = λ place at.
    let f = keyed_fn g.K.Keyed.prf g.K.Keyed.pad in
    let text = c.advance.new.self.line in
    let command = command_of c.in-Ok-line.line c.in_default.not-Empty c.in_default.not-Key in
    leads-stopped f _ _ _ c.from_residual.result (stops.Command c.in_err-next-in_default.field-0.0) c.from_residual.ensures.1
    (ends-stopped f _ c.args.session.stage c.args.session.input.number _ (has_refused c.args.session.refusals) _ (there-start f place c.args.session.stage c.args.session.input.number _ (has_refused c.args.session.refusals) _ at) _ text command.0 _ _ (c.in-Ok.ensures.line (search rules))
    (line_in-read c.in-Ok-line.line text c.in-Ok-line.ensures.read ∙ ap (λ line. Some line) command.1)
    (λ spot standing. inl (c.in_err-next-in_default.ensures.stops command.0 command.1 spot standing (g.W.Sink.written c.args.sink.now))))

pub returns-in-Err-print-clause-turns :
    goal.returns-in-Err-print-clause-turns
returns-in-Err-print-clause-turns g c = λ place at.
    let f = keyed_fn g.K.Keyed.prf g.K.Keyed.pad in
    let text = c.advance.new.self.line in
    let command = command_of c.in-Ok-line.line c.in_default.not-Empty c.in_default.not-Key in
    let fault = c.in-Err-print.fault in
    let old = outside_of (seen (g.L.Link.transcript c.args.link.now) (g.R.Recorder.kept c.args.recorder.now)) (g.W.Sink.written c.args.sink.now) in
    leads-stopped f (moment place (c.args.session.input.number + 1) (lines_left c.args.session.input.pending (g.S.Source.remaining c.args.source.now)) (has_refused c.args.session.refusals) old) (g.S.Source.remaining c.advance.new.source) (outside_of (seen (g.L.Link.transcript c.take_line.new.link) (g.R.Recorder.kept c.take_line.new.recorder)) (g.W.Sink.written c.print.new.sink)) (Err c.from.result) (stop_of_sink fault) c.from.ensures
    (ends-stopped f _ c.args.session.stage c.args.session.input.number _ (has_refused c.args.session.refusals) _ (there-start f place c.args.session.stage c.args.session.input.number _ (has_refused c.args.session.refusals) _ at) _ text command.0 _ _ (c.in-Ok.ensures.line (search rules))
    (line_in-read c.in-Ok-line.line text c.in-Ok-line.ensures.read ∙ ap (λ line. Some line) command.1)
    (stops-unprinted f c.args.session.stage c.in_ok-next-in_default.next c.in_ok-next-in_default.outcome command.0 (seen (g.L.Link.transcript c.args.link.now) (g.R.Recorder.kept c.args.recorder.now)) (seen (g.L.Link.transcript c.take_line.new.link) (g.R.Recorder.kept c.take_line.new.recorder)) (g.W.Sink.written c.args.sink.now)
    (g.W.Sink.written c.print.new.sink) (c.in_ok-next-in_default.ensures.takes command.0 command.1) fault c.in-Err-print.ensures.front))

pub returns-in-Ok-print-clause-turns :
    goal.returns-in-Ok-print-clause-turns
returns-in-Ok-print-clause-turns g c = λ place at.
    let f = keyed_fn g.K.Keyed.prf g.K.Keyed.pad in
    let text = c.advance.new.self.line in
    let command = command_of c.in-Ok-line.line c.in_default.not-Empty c.in_default.not-Key in
    there-next f _ c.args.session.stage c.args.session.input.number _ (has_refused c.args.session.refusals) _ (there-start f place c.args.session.stage c.args.session.input.number _ (has_refused c.args.session.refusals) _ at) _ text command.0 c.advance.new.self.number _ c.in_ok-next-in_default.next _ (has_refused c.or-refusals.result)
    (c.in-Ok.ensures.line (search rules)) (line_in-read c.in-Ok-line.line text c.in-Ok-line.ensures.read ∙ ap (λ line. Some line) command.1) (omega (arith, c.in-Ok.ensures.counted, c.requires.few))
    (carries-printed f c.args.session.stage c.in_ok-next-in_default.next c.in_ok-next-in_default.outcome command.0 (seen (g.L.Link.transcript c.args.link.now) (g.R.Recorder.kept c.args.recorder.now)) (seen (g.L.Link.transcript c.take_line.new.link) (g.R.Recorder.kept c.take_line.new.recorder)) (g.W.Sink.written c.args.sink.now)
    (g.W.Sink.written c.print.new.sink) (c.in_ok-next-in_default.ensures.takes command.0 command.1) c.in-Ok-print.ensures.all)
    (c.or-refusals.ensures ∙ ap (λ b. has_refused c.args.session.refusals || b) c.is_refusal.ensures)

pub returns-in_err-next-in_default-clause-source : goal.returns-in_err-next-in_default-clause-source
returns-in_err-next-in_default-clause-source g c =
    KeepsSource-err SourceCause _ _ c.from_residual.result (stops.Command c.in_err-next-in_default.field-0.0) c.from_residual.ensures.1 c.in-Ok.ensures.steady

pub returns-in_err-next-in_default-clause-sink : goal.returns-in_err-next-in_default-clause-sink
returns-in_err-next-in_default-clause-sink g c =
    KeepsSink-err _ _ _ _ c.from_residual.result (stops.Command c.in_err-next-in_default.field-0.0) c.from_residual.ensures.1 refl (omega arith)

pub returns-in_err-next-in_default-clause-link : goal.returns-in_err-next-in_default-clause-link
returns-in_err-next-in_default-clause-link g c =
    let old = c.args.link.now in
    let new = c.take_line.new.link in
    KeepsLink-err LinkCause (shows (g.L.Link.transcript old) (g.L.Link.faults old) (g.L.Link.began old)) (shows (g.L.Link.transcript new) (g.L.Link.faults new) (g.L.Link.began new))
    c.from_residual.result (stops.Command c.in_err-next-in_default.field-0.0) c.from_residual.ensures.1 c.in_err-next-in_default.ensures.keeps.began c.in_err-next-in_default.ensures.keeps.cause

pub returns-in-Err-print-clause-source : goal.returns-in-Err-print-clause-source
returns-in-Err-print-clause-source g c =
    let fault = c.in-Err-print.fault in
    KeepsSource-err SourceCause _ _ (Err c.from.result) (stop_of_sink fault) c.from.ensures (SourceCause-printed _ _ fault c.in-Ok.ensures.steady)

pub returns-in-Err-print-clause-sink : goal.returns-in-Err-print-clause-sink
returns-in-Err-print-clause-sink g c =
    let fault = c.in-Err-print.fault in
    KeepsSink-err _ _ _ _ (Err c.from.result) (stop_of_sink fault) c.from.ensures (SinkCause-printed _ _ fault c.in-Err-print.ensures.cause) c.in-Err-print.ensures.no_fewer

pub returns-in-Err-print-clause-link : goal.returns-in-Err-print-clause-link
returns-in-Err-print-clause-link g c =
    let old = c.args.link.now in
    let new = c.take_line.new.link in
    let fault = c.in-Err-print.fault in
    KeepsLink-err LinkCause (shows (g.L.Link.transcript old) (g.L.Link.faults old) (g.L.Link.began old)) (shows (g.L.Link.transcript new) (g.L.Link.faults new) (g.L.Link.began new))
    (Err c.from.result) (stop_of_sink fault) c.from.ensures c.in_ok-next-in_default.ensures.keeps.began (LinkCause-printed _ _ fault c.in_ok-next-in_default.ensures.keeps.steady)

pub returns-in_err-next-in_default-clause-recorder : goal.returns-in_err-next-in_default-clause-recorder
returns-in_err-next-in_default-clause-recorder g c = KeepsRecorder-err RecorderCause _ _ c.from_residual.result (stops.Command c.in_err-next-in_default.field-0.0) c.from_residual.ensures.1 c.in_err-next-in_default.ensures.recorder.cause

pub returns-in-Err-print-clause-recorder : goal.returns-in-Err-print-clause-recorder
returns-in-Err-print-clause-recorder g c = KeepsRecorder-err RecorderCause _ _ (Err c.from.result) (stop_of_sink c.in-Err-print.fault) c.from.ensures (RecorderCause-printed _ _ c.in-Err-print.fault c.in_ok-next-in_default.ensures.recorder.steady)

pub returns-in_err-next-in_default-clause-whole_after : goal.returns-in_err-next-in_default-clause-whole_after
returns-in_err-next-in_default-clause-whole_after g c =
    StaysWhole-err WholeAtStop (g.R.Recorder.whole c.take_line.new.recorder) c.from_residual.result (stops.Command c.in_err-next-in_default.field-0.0) c.from_residual.ensures.1 c.in_err-next-in_default.ensures.whole_after.stopped

pub returns-in-Err-print-clause-whole_after : goal.returns-in-Err-print-clause-whole_after
returns-in-Err-print-clause-whole_after g c =
    let stop = stop_of_sink c.in-Err-print.fault in
    let whole = g.R.Recorder.whole c.take_line.new.recorder in
    StaysWhole-err WholeAtStop whole (Err c.from.result) stop c.from.ensures (whole_at_stop whole c.in_ok-next-in_default.ensures.whole_after.after stop)

pub returns-in-Err-clause-keeps_on : goal.returns-in-Err-clause-keeps_on
returns-in-Err-clause-keeps_on g c = keeps-same g.R.Recorder.kept g.R.Recorder.moment g.R.Recorder.left_since c.args.recorder.now (g.met.R.Recorder.at_rest c.args.recorder.now c.requires.whole)

pub returns-then-not-more-clause-keeps_on : goal.returns-then-not-more-clause-keeps_on
returns-then-not-more-clause-keeps_on g c = keeps-same g.R.Recorder.kept g.R.Recorder.moment g.R.Recorder.left_since c.args.recorder.now (g.met.R.Recorder.at_rest c.args.recorder.now c.requires.whole)

pub returns-in-Err-line-clause-keeps_on : goal.returns-in-Err-line-clause-keeps_on
returns-in-Err-line-clause-keeps_on g c = keeps-same g.R.Recorder.kept g.R.Recorder.moment g.R.Recorder.left_since c.args.recorder.now (g.met.R.Recorder.at_rest c.args.recorder.now c.requires.whole)

pub returns-in-Empty-clause-keeps_on : goal.returns-in-Empty-clause-keeps_on
returns-in-Empty-clause-keeps_on g c = keeps-same g.R.Recorder.kept g.R.Recorder.moment g.R.Recorder.left_since c.args.recorder.now (g.met.R.Recorder.at_rest c.args.recorder.now c.requires.whole)

pub returns-in-Key-clause-keeps_on : goal.returns-in-Key-clause-keeps_on
returns-in-Key-clause-keeps_on g c = keeps-same g.R.Recorder.kept g.R.Recorder.moment g.R.Recorder.left_since c.args.recorder.now (g.met.R.Recorder.at_rest c.args.recorder.now c.requires.whole)
