use Rattle.std.proofs.Common.{◌≡◌, ◌+◌, ◌*◌, ◌%◌, ◌++◌, length, take}
use Rattle.two_level.specs.Opened.{numbers_of}
use Rattle.server_core.proofs.group.numbers_into.Given as goal

abbrev pub invariant-loop-number : goal.invariant-loop-number
invariant-loop-number l = record {
  same : take l.count l.out ++ numbers_of l.rest ≡ numbers_of l.bytes;
  whole : length l.rest % 8 ≡ 0;
  long : 8 * l.count + length l.rest ≡ length l.bytes;
}

abbrev pub decreases-loop-number : goal.decreases-loop-number
decreases-loop-number l = length l.rest
