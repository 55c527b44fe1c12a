use Rattle.std.proofs.Common.{◌≡◌, ◌+◌, ◌-◌, ◌*◌, ◌%◌, ◌^◌, ◌∷◌, ◌++◌, length, replicate, ap, sym, ◌∙◌, arith}
use Rattle.std.proofs.Math.ListN.{set}
use Rattle.std.specs.Int.{w64, to_be_bytes}
use Rattle.hmac_lanes.proofs.LastBlock.{last_block_is}
use Rattle.hmac_lanes.proofs.blocks.last_block.Goals as goal
use borrow.Rule.Slice.PartMut.{put_mid}

pub returns : goal.returns
returns c =
    let text = c.args.text.now in
    let bits = c.copy_from_slice.new.self in
    let zeros : (119 - (64 + length text) % 64) % 64 ≡ 55 - length text = omega (arith, c.requires) in
    let count : (64 + length text) * 8 % 2 ^ 64 ≡ (64 + length text) * 8 = omega (arith, c.requires) in
    let written : bits ≡ to_be_bytes w64 ((64 + length text) * 8 % 2 ^ 64) =
    c.copy_from_slice.ensures.after ∙ c.to_be_bytes.ensures ∙ ap (to_be_bytes w64) (sym count) in
    ap (λ b. put_mid 56 8 (set b (length text) 0x80) bits) c.in_front-block.ensures
    ∙ last_block_is text bits c.requires
    ∙ ap (λ n. text ++ (0x80 ∷ (replicate n 0 ++ bits))) (sym zeros)
    ∙ ap (λ bs. text ++ (0x80 ∷ (replicate ((119 - (64 + length text) % 64) % 64) 0 ++ bs))) written
