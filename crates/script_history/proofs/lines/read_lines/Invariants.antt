use Rattle.std.proofs.Common.{◌≤◌, ◌+◌, ◌^◌, ◌≡◌}
use Rattle.client_registry.specs.HashNumbers.{hash_numbers}
use Rattle.keyed_fn.specs.KeyedFn.{keyed_fn}
use Rattle.sse_script.specs.TextLines.{bytes_to_come, lines_left}
use Rattle.def_script_meaning.specs.Outcome.{Place}
use Rattle.script_history.specs.Stages.{Stands, keys_at}
use Rattle.script_history.specs.Turns.{IsThere, moment}
use Rattle.script_history.specs.TwoScripts.{behind_left, first_left}
use Rattle.script_history.proofs.lines.read_lines.Given as goal

abbrev pub invariant-lines : goal.invariant-lines
invariant-lines g l = record {
  few : l.input.number + bytes_to_come l.input.pending (g.S.Source.handed_out l.source) ≤ 2 ^ 63;
  source : g.S.Source.faults l.source ≡ g.S.Source.faults l.fn.source;
  sink : g.W.Sink.faults l.sink ≡ g.W.Sink.faults l.fn.sink;
  shortages : g.W.Sink.shortages l.fn.sink ≤ g.W.Sink.shortages l.sink;
  there : (place : Place) → Stands (keyed_fn g.K.Keyed.prf g.K.Keyed.pad) l.fn.progress.standing place
      → IsThere (keyed_fn g.K.Keyed.prf g.K.Keyed.pad) (moment place (l.fn.input.number + 1) (first_left (lines_left l.fn.input.pending (g.S.Source.remaining l.fn.source))) l.fn.progress.refused (g.W.Sink.written l.fn.sink))
      l.progress l.input.number (first_left (lines_left l.input.pending (g.S.Source.remaining l.source))) (g.W.Sink.written l.sink);
  behind : behind_left (lines_left l.fn.input.pending (g.S.Source.remaining l.fn.source)) ≡ behind_left (lines_left l.input.pending (g.S.Source.remaining l.source));
  hashed : keys_at l.fn.progress.standing.stage ≡ hash_numbers l.keys → keys_at l.progress.standing.stage ≡ hash_numbers l.keys;
}

abbrev pub decreases-lines : goal.decreases-lines
decreases-lines g l = bytes_to_come l.input.pending (g.S.Source.handed_out l.source)
