use Rattle.std.proofs.Common.{◌≡◌, length}
use Rattle.sse_script.specs.TextLines.{lines_of}
use Rattle.script_made_lines.specs.Summary as summary
use Rattle.script_made_lines.proofs.printed.first_counts.Given as goal

abbrev pub invariant-loop-line : goal.invariant-loop-line
invariant-loop-line l = summary.first_counts (lines_of l.left) ≡ summary.first_counts (lines_of l.printed)

abbrev pub decreases-loop-line : goal.decreases-loop-line
decreases-loop-line l = length l.left
