use Rattle.std.proofs.Common.{◌-◌, ◌≤◌, length}
use Rattle.outside_tcp.proofs.frame_place.FramePlace.pass.Given as goal

abbrev pub invariant-pieces : goal.invariant-pieces
invariant-pieces l = record {
  within : l.at ≤ length l.bytes;
}

abbrev pub decreases-pieces : goal.decreases-pieces
decreases-pieces l = length l.bytes - l.at
