use Rattle.std.proofs.Common.{length, ◌-◌, ◌≡◌, ◌≤◌, take}
use Rattle.std.specs.Io.KnownBytes.{append_known}
use Rattle.sse_outside.proofs.printed_bytes.print_all.Given as goal

-- the sink has taken the front of the bytes, with no fault
abbrev pub invariant-loop-done : goal.invariant-loop-done
invariant-loop-done g l = record {
  within : l.done ≤ length l.bytes;
  front : g.W.Sink.written l.sink ≡ append_known (g.W.Sink.written l.fn.sink) (take l.done l.bytes);
  steady : g.W.Sink.faults l.sink ≡ g.W.Sink.faults l.fn.sink;
  supplied : g.W.Sink.shortages l.sink ≡ g.W.Sink.shortages l.fn.sink;
}

abbrev pub decreases-loop-done : goal.decreases-loop-done
decreases-loop-done g l = length l.bytes - l.done
