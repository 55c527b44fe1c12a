use Rattle.std.proofs.Common.{◌≤◌, ◌+◌, ◌^◌, ◌≡◌}
use Rattle.keyed_fn.specs.KeyedFn.{keyed_fn}
use Rattle.sse_script.specs.TextLines.{bytes_to_come, lines_left}
use Rattle.def_script_meaning.specs.Outcome.{Place}
use Rattle.def_script_meaning.specs.Runs.{moment}
use Rattle.sse_client.specs.Stages.{key_of}
use Rattle.sse_client.specs.Stands.{IsAt, seen, outside_of, has_refused}
use Rattle.sse_client.specs.Turns.{IsThere}
use Rattle.client_recorder.specs.KeepsOn.{KeepsOn}
use Rattle.sse_client.proofs.lines.run_lines.Given as goal

abbrev pub invariant-lines : goal.invariant-lines
invariant-lines g l = record {
  prepared : l.tools.master ≡ key_of l.session.stage;
  few : l.session.input.number + bytes_to_come l.session.input.pending (g.S.Source.handed_out l.source) ≤ 2 ^ 63;
  source : g.S.Source.faults l.source ≡ g.S.Source.faults l.fn.source;
  sink : g.W.Sink.faults l.sink ≡ g.W.Sink.faults l.fn.sink;
  shortages : g.W.Sink.shortages l.fn.sink ≤ g.W.Sink.shortages l.sink;
  began : g.L.Link.began l.link ≡ g.L.Link.began l.fn.link;
  whole : g.R.Recorder.whole l.recorder;
  keeps_on : KeepsOn g.R.Recorder.kept g.R.Recorder.moment g.R.Recorder.left_since l.fn.recorder l.recorder;
  recorder : g.R.Recorder.faults l.recorder ≡ g.R.Recorder.faults l.fn.recorder;
  link : g.L.Link.faults l.link ≡ g.L.Link.faults l.fn.link;
  there : (place : Place) → IsAt (keyed_fn g.K.Keyed.prf g.K.Keyed.pad) l.fn.session.stage place
      → IsThere (keyed_fn g.K.Keyed.prf g.K.Keyed.pad)
      (moment place (l.fn.session.input.number + 1) (lines_left l.fn.session.input.pending (g.S.Source.remaining l.fn.source)) (has_refused l.fn.session.refusals) (outside_of (seen (g.L.Link.transcript l.fn.link) (g.R.Recorder.kept l.fn.recorder)) (g.W.Sink.written l.fn.sink)))
      l.session.stage l.session.input.number (lines_left l.session.input.pending (g.S.Source.remaining l.source)) (has_refused l.session.refusals) (outside_of (seen (g.L.Link.transcript l.link) (g.R.Recorder.kept l.recorder)) (g.W.Sink.written l.sink));
}

abbrev pub decreases-lines : goal.decreases-lines
decreases-lines g l = bytes_to_come l.session.input.pending (g.S.Source.handed_out l.source)
