use Rattle.std.proofs.Common.{◌≤◌, ◌+◌, ◌^◌, ◌≡◌}
use Rattle.sse_script.specs.TextLines.{bytes_to_come, lines_left}
use Rattle.doc_vault.proofs.KeyLineRead.{OpensAlike}
use Rattle.doc_vault.proofs.script_start.key_line.Given as goal

abbrev pub invariant-lines : goal.invariant-lines
invariant-lines g l = record {
  source : g.S.Source.faults l.source ≡ g.S.Source.faults l.fn.source;
  few : l.input.number + bytes_to_come l.input.pending (g.S.Source.handed_out l.source) ≤ 2 ^ 63;
  key : OpensAlike (l.fn.input.number + 1) (lines_left l.fn.input.pending (g.S.Source.remaining l.fn.source)) (l.input.number + 1) (lines_left l.input.pending (g.S.Source.remaining l.source));
}

abbrev pub decreases-lines : goal.decreases-lines
decreases-lines g l = bytes_to_come l.input.pending (g.S.Source.handed_out l.source)
