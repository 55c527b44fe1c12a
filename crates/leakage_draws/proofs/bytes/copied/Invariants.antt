use Rattle.std.proofs.Common.{◌≡◌, take}
use Rattle.leakage_draws.proofs.bytes.copied.Given as goal

abbrev pub invariant-loop-byte : goal.invariant-loop-byte
invariant-loop-byte l = l.copy ≡ take l.byte-index l.bytes
