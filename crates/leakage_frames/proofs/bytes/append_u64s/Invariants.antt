use Rattle.std.proofs.Common.{◌≡◌, ◌++◌, take}
use Rattle.std.specs.List.{flat_map}
use Rattle.sse_frames.specs.Frames.{be64}
use Rattle.leakage_frames.proofs.bytes.append_u64s.Given as goal

abbrev pub invariant-loop-n : goal.invariant-loop-n
invariant-loop-n l = l.out ≡ l.fn.out ++ flat_map be64 (take l.n-index l.numbers)
