use Rattle.std.proofs.Common.{None, Some, [], refl, ap, subst, ◌∙◌}
use Rattle.client_registry.specs.Histories.{empty}
use Rattle.keyed_fn.specs.KeyFormulas.{mark_of}
use Rattle.keyed_fn.specs.KeyedFn.{keyed_fn}
use Rattle.script_run_texts.specs.Causes.{KeepsSource, LinkCause, SourceCause}
use Rattle.script_run_texts.specs.Stops.{peer_cause}
use Rattle.script_run_texts.specs.declared.command_stop.CommandStop.TheVariants.{Exchange}
use Rattle.script_run_texts.specs.declared.stop_cause.StopCause.TheVariants as stops
use Rattle.def_script_meaning.specs.Outcome.{opened}
use Rattle.sse_script.specs.Shown.{NoMemory}
use Rattle.sse_script.specs.TextLines.{lines_left}
use Rattle.sse_client.specs.Calls.{shows}
use Rattle.sse_client.specs.Stages.{hash_keys_under}
use Rattle.sse_client.specs.Stands.{IsAt, seen, outside_of}
use Rattle.sse_client.specs.Turns.{ending}
use Rattle.sse_client.specs.declared.session.Stage.TheVariants.{Collecting}
use Rattle.sse_client.proofs.WholeRun.{from_start, opens_memory, opens-away, opens-greeted, opens-stopped}
use Rattle.sse_client.proofs.PartOfExchange.{TurnsAway-memory}
use Rattle.sse_client.proofs.TranscriptsJoined.{KeepsLink-then}
use Rattle.client_recorder.proofs.GrownRecords.{keeps-same}
use Rattle.sse_client.proofs.run.run_script.Goals as goal

pub returns-in_err-input-clause-ends : goal.returns-in_err-input-clause-ends
returns-in_err-input-clause-ends g c =
    let f = keyed_fn g.K.Keyed.prf g.K.Keyed.pad in
    let now = outside_of (seen (g.L.Link.transcript c.args.link.now) (g.R.Recorder.kept c.args.recorder.now)) (g.W.Sink.written c.args.sink.now) in
    opens-stopped f (lines_left [] (g.S.Source.remaining c.args.source.now)) now now c.from_residual.result stops.Memory c.from_residual.ensures.1 (opens_memory f (lines_left [] (g.S.Source.remaining c.args.source.now)) now)

pub returns-in_err-key-clause-ends : goal.returns-in_err-key-clause-ends
returns-in_err-key-clause-ends g c =
    let f = keyed_fn g.K.Keyed.prf g.K.Keyed.pad in
    let told = seen (g.L.Link.transcript c.args.link.now) (g.R.Recorder.kept c.args.recorder.now) in
    let written = g.W.Sink.written c.args.sink.now in
    opens-stopped f (lines_left [] (g.S.Source.remaining c.args.source.now)) (outside_of told written) (outside_of told written) c.from_residual-in_err-key.result (stops.Input c.in_err-key.field-0.0) c.from_residual-in_err-key.ensures.1 (
      None,
      empty,
      from_start f c.in_ok-input.input.number c.in_ok-input.input.pending (g.S.Source.remaining c.args.source.now) c.in_ok-input.ensures.number c.in_ok-input.ensures.pending told written _ (c.in_err-key.ensures.stopped f (outside_of told written)),
    )

pub returns-in_err-buffer-clause-ends : goal.returns-in_err-buffer-clause-ends
returns-in_err-buffer-clause-ends g c =
    let f = keyed_fn g.K.Keyed.prf g.K.Keyed.pad in
    let told = seen (g.L.Link.transcript c.args.link.now) (g.R.Recorder.kept c.args.recorder.now) in
    let written = g.W.Sink.written c.args.sink.now in
    opens-stopped f (lines_left [] (g.S.Source.remaining c.args.source.now)) (outside_of told written) (outside_of told written) c.from_residual-in_err-buffer.result stops.Memory c.from_residual-in_err-buffer.ensures.1
    (opens-away f c.in_ok-input.input.number c.in_ok-input.input.pending (g.S.Source.remaining c.args.source.now) c.in_ok-input.ensures.number c.in_ok-input.ensures.pending told written c.in_ok-key.key c.key_line.new.input.number (lines_left c.key_line.new.input.pending (g.S.Source.remaining c.key_line.new.source)) c.in_ok-key.ensures.key told.told NoMemory (TurnsAway-memory 0 0 told.told))

pub returns-in_err-greet-clause-ends : goal.returns-in_err-greet-clause-ends
returns-in_err-greet-clause-ends g c =
    let f = keyed_fn g.K.Keyed.prf g.K.Keyed.pad in
    let told = seen (g.L.Link.transcript c.args.link.now) (g.R.Recorder.kept c.args.recorder.now) in
    let written = g.W.Sink.written c.args.sink.now in
    let new = g.L.Link.transcript c.greet.new.link in
    let stop = c.in_err-greet.field-0.0 in
    opens-stopped f (lines_left [] (g.S.Source.remaining c.args.source.now)) (outside_of told written) (outside_of (seen new told.kept) written) c.from_residual-in_err-greet.result (stops.Command (Exchange stop)) c.from_residual-in_err-greet.ensures.1
    (opens-away f c.in_ok-input.input.number c.in_ok-input.input.pending (g.S.Source.remaining c.args.source.now) c.in_ok-input.ensures.number c.in_ok-input.ensures.pending told written c.in_ok-key.key c.key_line.new.input.number (lines_left c.key_line.new.input.pending (g.S.Source.remaining c.key_line.new.source)) c.in_ok-key.ensures.key new (peer_cause stop) c.in_err-greet.ensures.turned_away)

pub returns-clause-ends : goal.returns-clause-ends
returns-clause-ends g c =
    let told = seen (g.L.Link.transcript c.args.link.now) (g.R.Recorder.kept c.args.recorder.now) in
    let written = g.W.Sink.written c.args.sink.now in
    let f = keyed_fn g.K.Keyed.prf g.K.Keyed.pad in
    let mid = g.L.Link.transcript c.greet.new.link in
    let at : IsAt f (Collecting c.fresh.result c.new-docs.result) (opened (Some (mark_of f)) c.in_ok-key.key) = record { key = c.fresh.ensures; stands = (c.new-docs.ensures.none, refl); hashed = c.new-docs.ensures.keys ∙ c.hash_keys.ensures ∙ ap (hash_keys_under f) c.prepare-master.ensures; mark = refl; marks = refl } in
    let last = outside_of (seen (g.L.Link.transcript c.run_lines.new.link) (g.R.Recorder.kept c.run_lines.new.recorder)) (g.W.Sink.written c.run_lines.new.sink) in
    opens-greeted f c.in_ok-input.input.number c.in_ok-input.input.pending (g.S.Source.remaining c.args.source.now) c.in_ok-input.ensures.number c.in_ok-input.ensures.pending told written c.in_ok-key.key c.key_line.new.input.number (lines_left c.key_line.new.input.pending (g.S.Source.remaining c.key_line.new.source)) c.in_ok-key.ensures.key mid last (ending c.run_lines.result) c.in_ok-greet.ensures.opened (c.run_lines.ensures.ends (opened (Some (mark_of f)) c.in_ok-key.key) at)

pub returns-clause-source : goal.returns-clause-source
returns-clause-source g c =
    subst (λ before. KeepsSource SourceCause before (g.S.Source.faults c.run_lines.new.source) c.run_lines.result) c.in_ok-key.ensures.source.steady c.run_lines.ensures.source

pub returns-clause-link : goal.returns-clause-link
returns-clause-link g c =
    let old = c.args.link.now in
    let mid = c.greet.new.link in
    let new = c.run_lines.new.link in
    KeepsLink-then LinkCause (shows (g.L.Link.transcript old) (g.L.Link.faults old) (g.L.Link.began old)) (shows (g.L.Link.transcript mid) (g.L.Link.faults mid) (g.L.Link.began mid))
    (shows (g.L.Link.transcript new) (g.L.Link.faults new) (g.L.Link.began new)) c.run_lines.result c.in_ok-greet.ensures.keeps.began c.in_ok-greet.ensures.keeps.steady c.run_lines.ensures.link

pub returns-in_err-input-clause-keeps_on : goal.returns-in_err-input-clause-keeps_on
returns-in_err-input-clause-keeps_on g c = keeps-same g.R.Recorder.kept g.R.Recorder.moment g.R.Recorder.left_since c.args.recorder.now (g.met.R.Recorder.at_rest c.args.recorder.now c.requires.whole)

pub returns-in_err-key-clause-keeps_on : goal.returns-in_err-key-clause-keeps_on
returns-in_err-key-clause-keeps_on g c = keeps-same g.R.Recorder.kept g.R.Recorder.moment g.R.Recorder.left_since c.args.recorder.now (g.met.R.Recorder.at_rest c.args.recorder.now c.requires.whole)

pub returns-in_err-buffer-clause-keeps_on : goal.returns-in_err-buffer-clause-keeps_on
returns-in_err-buffer-clause-keeps_on g c = keeps-same g.R.Recorder.kept g.R.Recorder.moment g.R.Recorder.left_since c.args.recorder.now (g.met.R.Recorder.at_rest c.args.recorder.now c.requires.whole)

pub returns-in_err-greet-clause-keeps_on : goal.returns-in_err-greet-clause-keeps_on
returns-in_err-greet-clause-keeps_on g c = keeps-same g.R.Recorder.kept g.R.Recorder.moment g.R.Recorder.left_since c.args.recorder.now (g.met.R.Recorder.at_rest c.args.recorder.now c.requires.whole)
