use Rattle.std.proofs.Common.{◌≡◌, map, take, string_bytes}
use Rattle.leakage_frames.specs.Views.{leak_view}
use Rattle.sse_leaks.specs.LeakReport.{leak_lines}
use Rattle.sse_leaks.proofs.leak_report.lines_of.Given as goal

abbrev pub invariant-loop-command : goal.invariant-loop-command
invariant-loop-command l = string_bytes l.text ≡ leak_lines (take l.command (map leak_view l.leaks))
