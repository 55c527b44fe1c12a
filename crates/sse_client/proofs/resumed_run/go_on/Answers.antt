use Rattle.std.proofs.Common.{◌+◌, Err, inl, refl, subst, sym, ◌≡◌, ◌∙◌, arith}
use Rattle.std.specs.Prelude.{IfErr, OnOk}
use Rattle.client_core.specs.Resumes.{first_of_last}
use Rattle.client_registry.specs.Sized.{update_frames}
use Rattle.keyed_fn.specs.KeyedFn.{keyed_fn}
use Rattle.script_run_texts.specs.Causes.{LinkCause, RecorderCause, SinkCause, SourceCause}
use Rattle.script_run_texts.specs.Stops.{command_cause, stop_of_sink}
use Rattle.script_run_texts.specs.declared.stop_cause.StopCause.TheVariants as stops
use Rattle.sse_client.specs.Known.{epochs_known, place_known}
use Rattle.sse_script.specs.Shown.{NoMemory}
use Rattle.sse_script.specs.TextLines.{lines_left}
use Rattle.sse_client.proofs.CountsAtStop.{LinkCause-printed, RecorderCause-printed, SinkCause-printed, SourceCause-printed}
use Rattle.sse_client.proofs.ResumedRuns.{PrintCause-of, resumes-held, resumes-lines, resumes-stopped, resumes-untold}
use Rattle.sse_client.proofs.PartOfExchange.{TurnsAway-memory}
use Rattle.sse_client.proofs.TranscriptsJoined.{KeepsLink-err, KeepsLink-then, KeepsRecorder-err, KeepsSink-err, KeepsSource-err}
use Rattle.sse_client.specs.Calls.{shows}
use Rattle.sse_client.specs.Stands.{IsAt, seen, outside_of}
use Rattle.sse_client.specs.Turns.{ending}
use Rattle.sse_client.specs.declared.session.Stage.TheVariants.{Searching}
use Rattle.sse_client.specs.RecordKept.{WholeAtStop}
use Rattle.sse_client.proofs.RecordsLast.{StaysWhole-err, whole_at, whole_at_stop}
use Rattle.client_recorder.proofs.GrownRecords.{keeps-same}
use Rattle.sse_client.proofs.resumed_run.go_on.Goals as goal

pub run_lines-requires : goal.run_lines-requires
run_lines-requires g c = record {
  prepared = c.requires.prepared ∙ sym (c.in_ok-ready.ensures.key c.requires.restores.0 c.requires.restores.2.remembers);
  whole = c.requires.whole;
  few = c.requires.few;
}

pub returns-in_default-clause-ends : goal.returns-in_default-clause-ends
returns-in_default-clause-ends g c = λ known knows.
    let f = keyed_fn g.K.Keyed.prf g.K.Keyed.pad in
    let told = g.L.Link.transcript c.args.link.now in
    let kept = g.R.Recorder.kept c.args.recorder.now in
    let written = g.W.Sink.written c.args.sink.now in
    let key = c.args.restart.client.key in
    let number = c.args.restart.input.number + 1 in
    let lines = lines_left c.args.restart.input.pending (g.S.Source.remaining c.args.source.now) in
    let now = outside_of (seen told kept) written in
    resumes-stopped f key known number lines now now (Err stops.Memory) stops.Memory refl
    (resumes-held f key known _ _ told kept written told NoMemory (inl (TurnsAway-memory (first_of_last f key known.begins known.run) (known.begins.frame + update_frames known.run) told)))

pub returns-in_err-ready-clause-ends : goal.returns-in_err-ready-clause-ends
returns-in_err-ready-clause-ends g c = λ known knows.
    let f = keyed_fn g.K.Keyed.prf g.K.Keyed.pad in
    let told = g.L.Link.transcript c.args.link.now in
    let kept = g.R.Recorder.kept c.args.recorder.now in
    let written = g.W.Sink.written c.args.sink.now in
    let key = c.args.restart.client.key in
    let new = g.L.Link.transcript c.resend.new.link in
    let stop = c.in_err-ready.field-0.0 in
    resumes-stopped f key known _ _ (outside_of (seen told kept) written) (outside_of (seen new kept) written) c.from_residual.result (stops.Command stop) c.from_residual.ensures.1
    (resumes-held f key known _ _ told kept written new (command_cause stop) (c.in_err-ready.ensures.stopped known knows.remembers))

pub returns-in-Err-clause-ends : goal.returns-in-Err-clause-ends
returns-in-Err-clause-ends g c = λ known knows.
    let f = keyed_fn g.K.Keyed.prf g.K.Keyed.pad in
    let told = g.L.Link.transcript c.args.link.now in
    let kept = g.R.Recorder.kept c.args.recorder.now in
    let written = g.W.Sink.written c.args.sink.now in
    let key = c.args.restart.client.key in
    let new = g.L.Link.transcript c.resend.new.link in
    let fault = c.in-Err.fault in
    let number = c.args.restart.input.number + 1 in
    let lines = lines_left c.args.restart.input.pending (g.S.Source.remaining c.args.source.now) in
    resumes-stopped f key known number lines (outside_of (seen told kept) written) (outside_of (seen new kept) (g.W.Sink.written c.print.new.sink)) (Err c.from.result) (stop_of_sink fault) c.from.ensures
    (resumes-untold f key known _ _ told kept written new c.in_ok-ready.frames (c.in_ok-ready.ensures.resent known knows.remembers) (g.W.Sink.written c.print.new.sink) fault c.in-Err.ensures.front)

pub returns-clause-ends : goal.returns-clause-ends
returns-clause-ends g c = λ known knows.
    let f = keyed_fn g.K.Keyed.prf g.K.Keyed.pad in
    let told = g.L.Link.transcript c.args.link.now in
    let kept = g.R.Recorder.kept c.args.recorder.now in
    let written = g.W.Sink.written c.args.sink.now in
    let key = c.args.restart.client.key in
    let new = g.L.Link.transcript c.resend.new.link in
    let at : IsAt f (Searching c.in_ok-ready.ready) (place_known f key known) = record {
      key = c.in_ok-ready.ensures.key known knows.remembers;
      stands = (epochs_known known, refl, c.in_ok-ready.ensures.stands known knows.remembers);
      hashed = c.in_ok-ready.ensures.hash_keys ∙ c.requires.hashed;
      mark = refl;
      marks = c.in_ok-ready.ensures.marks ∙ knows.marks;
    } in
    resumes-lines f key known _ _ told kept written new c.in_ok-ready.frames (c.in_ok-ready.ensures.resent known knows.remembers) (g.W.Sink.written c.print.new.sink)
    (outside_of (seen (g.L.Link.transcript c.run_lines.new.link) (g.R.Recorder.kept c.run_lines.new.recorder)) (g.W.Sink.written c.run_lines.new.sink)) (ending c.run_lines.result) c.in-Ok-print.ensures.all
    (c.run_lines.ensures.ends (place_known f key known) at)

pub returns-clause-link : goal.returns-clause-link
returns-clause-link g c =
    let old = c.args.link.now in
    let mid = c.resend.new.link in
    let new = c.run_lines.new.link in
    KeepsLink-then LinkCause (shows (g.L.Link.transcript old) (g.L.Link.faults old) (g.L.Link.began old)) (shows (g.L.Link.transcript mid) (g.L.Link.faults mid) (g.L.Link.began mid))
    (shows (g.L.Link.transcript new) (g.L.Link.faults new) (g.L.Link.began new)) c.run_lines.result c.in_ok-ready.ensures.keeps.began c.in_ok-ready.ensures.keeps.steady c.run_lines.ensures.link

pub returns-clause-sink : goal.returns-clause-sink
returns-clause-sink g c =
    let now = g.W.Sink.faults c.run_lines.new.sink in
    let r = c.run_lines.result in
    record {
      steady = subst (λ n. OnOk r (now ≡ n)) c.in-Ok-print.ensures.steady c.run_lines.ensures.sink.steady;
      cause = subst (λ n. IfErr r (SinkCause n now)) c.in-Ok-print.ensures.steady c.run_lines.ensures.sink.cause;
      no_fewer = omega (arith, c.print.ensures.no_fewer, c.run_lines.ensures.sink.no_fewer);
    }

pub returns-in_err-ready-clause-recorder : goal.returns-in_err-ready-clause-recorder
returns-in_err-ready-clause-recorder g c =
    KeepsRecorder-err RecorderCause _ _ c.from_residual.result (stops.Command c.in_err-ready.field-0.0) c.from_residual.ensures.1 (c.in_err-ready.ensures.unkept (g.R.Recorder.faults c.args.recorder.now))

pub returns-in-Err-clause-source : goal.returns-in-Err-clause-source
returns-in-Err-clause-source g c =
    KeepsSource-err SourceCause _ _ (Err c.from.result) (stop_of_sink c.in-Err.fault) c.from.ensures (SourceCause-printed _ _ c.in-Err.fault refl)

pub returns-in-Err-clause-sink : goal.returns-in-Err-clause-sink
returns-in-Err-clause-sink g c =
    let fault = c.in-Err.fault in
    KeepsSink-err _ _ _ _ (Err c.from.result) (stop_of_sink fault) c.from.ensures
    (SinkCause-printed _ _ fault (PrintCause-of (g.W.Sink.faults c.args.sink.now) (g.W.Sink.faults c.print.new.sink) fault (λ e. c.in-Err.ensures.failed (search e)) (λ e. c.in-Err.ensures.no_memory (search e)))) c.print.ensures.no_fewer

pub returns-in-Err-clause-link : goal.returns-in-Err-clause-link
returns-in-Err-clause-link g c =
    let old = c.args.link.now in
    let new = c.resend.new.link in
    let fault = c.in-Err.fault in
    KeepsLink-err LinkCause (shows (g.L.Link.transcript old) (g.L.Link.faults old) (g.L.Link.began old)) (shows (g.L.Link.transcript new) (g.L.Link.faults new) (g.L.Link.began new))
    (Err c.from.result) (stop_of_sink fault) c.from.ensures c.in_ok-ready.ensures.keeps.began (LinkCause-printed _ _ fault c.in_ok-ready.ensures.keeps.steady)

pub returns-in-Err-clause-recorder : goal.returns-in-Err-clause-recorder
returns-in-Err-clause-recorder g c =
    KeepsRecorder-err RecorderCause _ _ (Err c.from.result) (stop_of_sink c.in-Err.fault) c.from.ensures (RecorderCause-printed _ _ c.in-Err.fault refl)

pub returns-in_err-ready-clause-whole_after : goal.returns-in_err-ready-clause-whole_after
returns-in_err-ready-clause-whole_after g c =
    let stop = c.in_err-ready.field-0.0 in
    let whole = g.R.Recorder.whole c.args.recorder.now in
    StaysWhole-err WholeAtStop whole c.from_residual.result (stops.Command stop) c.from_residual.ensures.1 (whole_at whole c.requires.whole stop)

pub returns-in-Err-clause-whole_after : goal.returns-in-Err-clause-whole_after
returns-in-Err-clause-whole_after g c =
    let stop = stop_of_sink c.in-Err.fault in
    let whole = g.R.Recorder.whole c.args.recorder.now in
    StaysWhole-err WholeAtStop whole (Err c.from.result) stop c.from.ensures (whole_at_stop whole c.requires.whole stop)

pub returns-in_default-clause-keeps_on : goal.returns-in_default-clause-keeps_on
returns-in_default-clause-keeps_on g c = keeps-same g.R.Recorder.kept g.R.Recorder.moment g.R.Recorder.left_since c.args.recorder.now (g.met.R.Recorder.at_rest c.args.recorder.now c.requires.whole)

pub returns-in_err-ready-clause-keeps_on : goal.returns-in_err-ready-clause-keeps_on
returns-in_err-ready-clause-keeps_on g c = keeps-same g.R.Recorder.kept g.R.Recorder.moment g.R.Recorder.left_since c.args.recorder.now (g.met.R.Recorder.at_rest c.args.recorder.now c.requires.whole)

pub returns-in-Err-clause-keeps_on : goal.returns-in-Err-clause-keeps_on
returns-in-Err-clause-keeps_on g c = keeps-same g.R.Recorder.kept g.R.Recorder.moment g.R.Recorder.left_since c.args.recorder.now (g.met.R.Recorder.at_rest c.args.recorder.now c.requires.whole)
