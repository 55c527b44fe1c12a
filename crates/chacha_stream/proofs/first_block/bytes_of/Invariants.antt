use Rattle.std.proofs.Common.{◌≡◌, ◌*◌, flat_map, length, take}
use Rattle.std.specs.Int.{w32, to_le_bytes}
use Rattle.chacha_stream.proofs.first_block.bytes_of.Given as goal

abbrev pub invariant-loop-k : goal.invariant-loop-k
invariant-loop-k l = (length l.bytes ≡ 64) × (take (4 * l.k) l.bytes ≡ flat_map (to_le_bytes w32) (take l.k l.fn.words))
