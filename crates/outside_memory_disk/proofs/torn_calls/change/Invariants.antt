use Rattle.std.proofs.Common.{length, take, ◌-◌, ◌≡◌, ◌≤◌}
use Rattle.outside_memory_disk.specs.Picked.{others}
use Rattle.outside_memory_disk.proofs.torn_calls.change.Given as goal

abbrev pub invariant-bytes : goal.invariant-bytes
invariant-bytes l = record {
  within : l.i ≤ length l.bytes;
  made : l.made.items ≡ others (take l.i l.bytes);
}

abbrev pub decreases-bytes : goal.decreases-bytes
decreases-bytes l = length l.bytes - l.i
