use Rattle.std.proofs.Common.{◌<◌, length, get_or, bit_xor, arith, sym}
use Rattle.std.proofs.lemmas.Grind.{get_or_default_zero}
use Rattle.std.proofs.lemmas.List.Edits.{map_over_more}
use Rattle.hmac_sha256.proofs.key_block.mask_in_place.Goals as goal

pub loop-byte-preserved : goal.loop-byte-preserved
loop-byte-preserved c =
    let within : c.loop-byte.byte-index < length c.loop-byte.block = omega arith in
    map_over_more (λ byte. bit_xor byte c.args.mask) c.args.block.now c.loop-byte.block c.loop-byte.byte-index
    (get_or c.loop-byte.block c.loop-byte.byte-index 0) (omega arith) c.loop-byte.invariant
    (sym (get_or_default_zero c.loop-byte.block c.loop-byte.byte-index _ within))
