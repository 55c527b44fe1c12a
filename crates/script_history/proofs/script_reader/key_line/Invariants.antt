use Rattle.std.proofs.Common.{◌≤◌, ◌+◌, ◌^◌, ◌≡◌, ℕ, List, Option}
use Rattle.sse_script.specs.TextLines.{bytes_to_come, lines_left}
use Rattle.script_history.specs.TwoScripts.{behind_left, first_left}
use Rattle.script_history.proofs.ReadingGoesOn.{GoesOnFirst}
use Rattle.script_history.proofs.script_reader.key_line.Given as goal

abbrev pub invariant-lines : goal.invariant-lines
invariant-lines g l = record {
  source : g.S.Source.faults l.source ≡ g.S.Source.faults l.fn.source;
  few : l.input.number + bytes_to_come l.input.pending (g.S.Source.handed_out l.source) ≤ 2 ^ 63;
  opening : (mark : Option (List ℕ → List ℕ)) → GoesOnFirst mark (l.fn.input.number + 1) (first_left (lines_left l.fn.input.pending (g.S.Source.remaining l.fn.source))) (l.input.number + 1) (first_left (lines_left l.input.pending (g.S.Source.remaining l.source)));
  behind : behind_left (lines_left l.fn.input.pending (g.S.Source.remaining l.fn.source)) ≡ behind_left (lines_left l.input.pending (g.S.Source.remaining l.source));
}

abbrev pub decreases-lines : goal.decreases-lines
decreases-lines g l = bytes_to_come l.input.pending (g.S.Source.handed_out l.source)
