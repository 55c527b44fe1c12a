use Rattle.std.proofs.Common.{◌≡◌, ◌++◌, take}
use Rattle.sse_frames.specs.Frames.{joined}
use Rattle.leakage_frames.proofs.bytes.append_numbers.Given as goal

abbrev pub invariant-loop-number : goal.invariant-loop-number
invariant-loop-number l = l.out ≡ l.fn.out ++ joined (take l.number-index l.numbers)
