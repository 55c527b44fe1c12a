use Rattle.std.proofs.Common.{◌≡◌, ◌+◌, ◌-◌, ◌^◌, ◌≤◌, ◌==◌, length}
use Rattle.std.specs.List.{position_or_len}
use Rattle.std.specs.Io.KnownBytes.{prepend_known}
use Rattle.sse_script.specs.TextLines.{bytes_to_come}
use Rattle.sse_script.specs.declared.line_reader.TheConstants.{MAX_LINE}
use Rattle.sse_script.proofs.line_reader.LineReader.next_line.Given as goal

-- the line so far, with no ending in it, and what is left are what there was
abbrev pub invariant-reading : goal.invariant-reading
invariant-reading g l = record {
  same : prepend_known l.line.items (prepend_known l.self (g.S.Source.remaining l.source))
      ≡ prepend_known l.initial.self (g.S.Source.remaining l.initial.source);
  unended : position_or_len (λ b. b == 10) l.line.items ≡ length l.line.items;
  short : length l.line.items ≤ MAX_LINE;
  come : length l.line.items + bytes_to_come l.self (g.S.Source.handed_out l.source)
      ≡ bytes_to_come l.initial.self (g.S.Source.handed_out l.initial.source);
  steady : g.S.Source.faults l.source ≡ g.S.Source.faults l.initial.source;
}

abbrev pub decreases-reading : goal.decreases-reading
decreases-reading g l = 2 ^ 63 - g.S.Source.handed_out l.source
