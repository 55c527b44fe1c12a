use Rattle.std.proofs.Common.{◌≡◌, ◌++◌, take}
use Rattle.leakage_frames.proofs.bytes.append.Given as goal

abbrev pub invariant-loop-byte : goal.invariant-loop-byte
invariant-loop-byte l = l.out ≡ l.fn.out ++ take l.byte-index l.bytes
