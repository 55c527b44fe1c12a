use Rattle.std.proofs.Common.{length, ◌-◌, ◌≡◌, ◌≤◌, take}
use Rattle.std.specs.Io.KnownBytes.{prepend_known}
use Rattle.tcp_service.proofs.head.read_full.Given as goal

-- the front of the bytes came out of the source, with no fault
abbrev pub invariant-loop-done : goal.invariant-loop-done
invariant-loop-done g l = record {
  within : l.done ≤ length l.out;
  long : length l.out ≡ length l.fn.out;
  front : g.S.Source.remaining l.fn.source ≡ prepend_known (take l.done l.out) (g.S.Source.remaining l.source);
  steady : g.S.Source.faults l.source ≡ g.S.Source.faults l.fn.source;
}

abbrev pub decreases-loop-done : goal.decreases-loop-done
decreases-loop-done g l = length l.out - l.done
