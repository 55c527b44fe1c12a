use Rattle.std.proofs.Common.{length, ◌-◌, ◌≡◌, ◌≤◌, take}
use Rattle.std.specs.Io.KnownBytes.{append_known}
use Rattle.hex.specs.Hex.{encode_lower}
use Rattle.vault_script.proofs.body_digits.print_digits.Given as goal

-- the sink has taken the digits of the front of the text, with no fault
abbrev pub invariant-loop-done : goal.invariant-loop-done
invariant-loop-done g l = record {
  within : l.done ≤ length l.body;
  front : g.W.Sink.written l.sink ≡ append_known (g.W.Sink.written l.fn.sink) (encode_lower (take l.done l.body));
  steady : g.W.Sink.faults l.sink ≡ g.W.Sink.faults l.fn.sink;
  supplied : g.W.Sink.shortages l.sink ≡ g.W.Sink.shortages l.fn.sink;
}

abbrev pub decreases-loop-done : goal.decreases-loop-done
decreases-loop-done g l = length l.body - l.done
