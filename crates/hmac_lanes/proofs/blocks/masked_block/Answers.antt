use Rattle.std.proofs.Common.{refl, rules, ℕ, List, ◌≡◌, ◌+◌, ◌-◌, ◌<◌, ◌≤◌, ◌++◌, take, drop, length, replicate, get_or, bit_xor, ap, sym, ◌∙◌, arith}
use Rattle.std.proofs.lemmas.List.{take_all, drop_all, append-nil, length-append, length-drop, length-map, length-replicate, length-take-le}
use Rattle.std.proofs.lemmas.Grind.{get_or_default_zero}
use Rattle.std.proofs.lemmas.List.Edits.{map_over_more}
use Rattle.hmac_sha256.specs.Fips198.{key_block_of, masked}
use Rattle.hmac_sha256.proofs.KeyBlock.{key_block_of-short}
use Rattle.hmac_lanes.proofs.blocks.masked_block.Goals as goal

pub loop-i-init : goal.loop-i-init
loop-i-init c = c.in_front-block.ensures ∙ sym (key_block_of-short c.args.key.now (search rules))

pub loop-i-preserved : goal.loop-i-preserved
loop-i-preserved c =
    let key = c.args.key.now in
    let short : length key ≤ 64 = search rules in
    let size : length (key_block_of key) ≡ 64 =
    ap length (key_block_of-short key short) ∙ omega (arith, short, length-append key (replicate (64 - length key) 0), length-replicate {A = ℕ} (64 - length key) 0) in
    let within : c.loop-i.i < length (key_block_of key) = omega (arith, size) in
    let front : List ℕ = masked (take c.loop-i.i (key_block_of key)) c.args.mask in
    let long : length c.loop-i.block ≡ 64 =
    ap length c.loop-i.invariant ∙ omega (
      arith,
      size,
      length-append front (drop c.loop-i.i (key_block_of key)),
      length-drop c.loop-i.i (key_block_of key),
      length-map (take c.loop-i.i (key_block_of key)) (λ byte. bit_xor byte c.args.mask),
      length-take-le c.loop-i.i (key_block_of key) (omega (arith, within)),
    ) in
    map_over_more (λ byte. bit_xor byte c.args.mask) (key_block_of key) c.loop-i.block c.loop-i.i (get_or c.loop-i.block c.loop-i.i 0) within c.loop-i.invariant
    (sym (get_or_default_zero c.loop-i.block c.loop-i.i (get_or c.loop-i.block c.loop-i.i 0) (omega (arith, long))))

pub returns : goal.returns
returns c =
    let key = c.args.key.now in
    let short : length key ≤ 64 = search rules in
    let size : length (key_block_of key) ≡ 64 =
    ap length (key_block_of-short key short) ∙ omega (arith, short, length-append key (replicate (64 - length key) 0), length-replicate {A = ℕ} (64 - length key) 0) in
    let end : c.loop-i.i ≡ 64 = omega arith in
    let all : c.loop-i.block ≡ masked (take 64 (key_block_of key)) c.args.mask ++ drop 64 (key_block_of key) = rw end at c.loop-i.invariant in
    all ∙ ap (λ rest. masked (take 64 (key_block_of key)) c.args.mask ++ rest) (drop_all 64 (key_block_of key) (omega (arith, size)))
    ∙ append-nil _ ∙ ap (λ block. masked block c.args.mask) (take_all 64 (key_block_of key) (omega (arith, size)))
