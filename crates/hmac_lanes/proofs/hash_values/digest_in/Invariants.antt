use Rattle.std.proofs.Common.{◌≡◌, ◌*◌, length, take}
use Rattle.sha2.specs.Sha256.{digest_bytes}
use Rattle.sha256_lanes.specs.Lanes.{lane}
use Rattle.hmac_lanes.proofs.hash_values.digest_in.Given as goal

abbrev pub invariant-loop-i : goal.invariant-loop-i
invariant-loop-i l = (length l.digest ≡ 32) × (take (4 * l.i) l.digest ≡ digest_bytes (lane l.fn.j l.fn.hash_values) l.i)
