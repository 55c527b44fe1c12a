use Rattle.std.proofs.Common.{◌≡◌, ◌-◌, ◌^◌, ◌≤◌, ◌==◌}
use Rattle.std.specs.Option.{option_map}
use Rattle.std.specs.List.{after_first}
use Rattle.std.specs.Io.KnownBytes.{prepend_known}
use Rattle.sse_script.specs.TextLines.{bytes_to_come}
use Rattle.sse_script.proofs.line_reader.LineReader.skip_line.Given as goal

-- the same stands after the line that is passed over
abbrev pub invariant-skipping : goal.invariant-skipping
invariant-skipping g l = record {
  rest : option_map (after_first (λ b. b == 10)) (prepend_known l.self (g.S.Source.remaining l.source))
      ≡ option_map (after_first (λ b. b == 10)) (prepend_known l.initial.self (g.S.Source.remaining l.initial.source));
  come : bytes_to_come l.self (g.S.Source.handed_out l.source) ≤ bytes_to_come l.initial.self (g.S.Source.handed_out l.initial.source);
  steady : g.S.Source.faults l.source ≡ g.S.Source.faults l.initial.source;
}

abbrev pub decreases-skipping : goal.decreases-skipping
decreases-skipping g l = 2 ^ 63 - g.S.Source.handed_out l.source
