use Rattle.std.proofs.Common.{◌≤◌, ◌+◌, ◌^◌, ◌≡◌}
use Rattle.keyed_fn.specs.KeyedFn.{KeyedFn}
use Rattle.sse_script.specs.TextLines.{bytes_to_come, lines_left}
use Rattle.def_script_meaning.proofs.Steps.{ContinuesOpening}
use Rattle.def_script_meaning.specs.Carries.{Outside}
use Rattle.sse_client.proofs.KeyLineRead.{HasSameKey}
use Rattle.sse_client.proofs.run.key_line.Given as goal

abbrev pub invariant-lines : goal.invariant-lines
invariant-lines g l = record {
  source : g.S.Source.faults l.source ≡ g.S.Source.faults l.fn.source;
  few : l.input.number + bytes_to_come l.input.pending (g.S.Source.handed_out l.source) ≤ 2 ^ 63;
  opening : (f : KeyedFn) (now : Outside)
      → ContinuesOpening f (l.fn.input.number + 1) (lines_left l.fn.input.pending (g.S.Source.remaining l.fn.source)) now (l.input.number + 1) (lines_left l.input.pending (g.S.Source.remaining l.source));
  key : HasSameKey (l.fn.input.number + 1) (lines_left l.fn.input.pending (g.S.Source.remaining l.fn.source)) (l.input.number + 1) (lines_left l.input.pending (g.S.Source.remaining l.source));
}

abbrev pub decreases-lines : goal.decreases-lines
decreases-lines g l = bytes_to_come l.input.pending (g.S.Source.handed_out l.source)
