use Rattle.std.proofs.Common.{◌≡◌, ◌++◌, take, drop}
use Rattle.hmac_sha256.specs.Fips198.{key_block_of, masked}
use Rattle.hmac_lanes.proofs.blocks.masked_block.Given as goal

abbrev pub invariant-loop-i : goal.invariant-loop-i
invariant-loop-i l = l.block ≡ masked (take l.i (key_block_of l.fn.key)) l.fn.mask ++ drop l.i (key_block_of l.fn.key)
