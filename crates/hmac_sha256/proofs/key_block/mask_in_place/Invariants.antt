use Rattle.std.proofs.Common.{◌≡◌, ◌++◌, take, drop}
use Rattle.hmac_sha256.specs.Fips198.{masked}
use Rattle.hmac_sha256.proofs.key_block.mask_in_place.Given as goal

abbrev pub invariant-loop-byte : goal.invariant-loop-byte
invariant-loop-byte l = l.block ≡ masked (take l.byte-index l.fn.block) l.mask ++ drop l.byte-index l.fn.block
