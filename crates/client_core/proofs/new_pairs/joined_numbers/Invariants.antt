use Rattle.std.proofs.Common.{◌≡◌, take}
use Rattle.sse_frames.specs.Frames.{joined}
use Rattle.client_core.proofs.new_pairs.joined_numbers.Given as goal

abbrev pub invariant-loop-number : goal.invariant-loop-number
invariant-loop-number l = l.bytes.items ≡ joined (take l.number-index l.numbers)
