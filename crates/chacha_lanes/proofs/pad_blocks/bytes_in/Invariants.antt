use Rattle.std.proofs.Common.{◌≡◌, ◌*◌, flat_map, length, take}
use Rattle.std.specs.Int.{w32, to_le_bytes}
use Rattle.rand_chacha.specs.Lanes.{lane}
use Rattle.chacha_lanes.proofs.pad_blocks.bytes_in.Given as goal

abbrev pub invariant-loop-k : goal.invariant-loop-k
invariant-loop-k l = (length l.bytes ≡ 64) × (take (4 * l.k) l.bytes ≡ flat_map (to_le_bytes w32) (take l.k (lane l.fn.j l.fn.words)))
