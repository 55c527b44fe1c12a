use Rattle.std.proofs.Common.{◌≡◌, ◌+◌, ◌≤◌, length}
use Rattle.sse_script.specs.TextLines.{lines_of}
use Rattle.script_made_lines.specs.Summary as summary
use Rattle.script_made_lines.proofs.printed.identifiers_shown.Given as goal

abbrev pub invariant-loop-line : goal.invariant-loop-line
invariant-loop-line l = (l.shown + summary.identifiers_shown (lines_of l.left) ≡ summary.identifiers_shown (lines_of l.printed)) × (l.shown + length l.left ≤ length l.printed)

abbrev pub decreases-loop-line : goal.decreases-loop-line
decreases-loop-line l = length l.left
