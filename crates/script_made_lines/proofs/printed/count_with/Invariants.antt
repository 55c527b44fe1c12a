use Rattle.std.proofs.Common.{◌≡◌, ◌+◌, ◌≤◌, length}
use Rattle.sse_script.specs.TextLines.{lines_of}
use Rattle.script_made_lines.specs.Summary.{count_with}
use Rattle.script_made_lines.proofs.printed.count_with.Given as goal

abbrev pub invariant-loop-line : goal.invariant-loop-line
invariant-loop-line l = (l.count + count_with l.kind (lines_of l.left) ≡ count_with l.kind (lines_of l.printed)) × (l.count + length l.left ≤ length l.printed)

abbrev pub decreases-loop-line : goal.decreases-loop-line
decreases-loop-line l = length l.left
