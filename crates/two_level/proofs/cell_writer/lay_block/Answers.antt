use Rattle.std.proofs.Common.{◌≡◌, ℕ, ◌*◌, ◌≤◌, ◌-◌, ◌++◌, [], ◌∙◌, List, length, drop, replicate, get_or, Some, arith, sym, ap}
use Rattle.std.proofs.lemmas.List.{take_rest}
use Rattle.list_packing.specs.Numbers.{number_bytes}
use Rattle.list_packing.specs.Parts.{parts, filled, blocks}
use Rattle.list_packing.proofs.NumbersLemmas.{number_bytes-filled}
use Rattle.list_packing.proofs.PartsLemmas.{part-within}
use Rattle.two_level.specs.Laid.{pointers}
use Rattle.two_level.specs.Shape.{Shape}
use Rattle.two_level.proofs.LaidLemmas.{length-pointers}
use Rattle.two_level.proofs.LayLemmas.{pointer_block, data_block}
use Rattle.two_level.proofs.cell_writer.lay_block.Goals as goal

pub write_pointers-requires : goal.write_pointers-requires
write_pointers-requires c =
    let short : length c.part.result.now ≤ c.from-width.result = part-within c.from-width.result _ c.args.i c.part.result.now c.part.ensures in
    omega (arith, short, (c.from-width.ensures ∙ c.big.ensures.big), c.requires.size)

-- so many zeros after the pointers of a block
filled_block : (width m : ℕ) (ranks : List ℕ) → m ≡ 8 * width
    → number_bytes (pointers ranks) ++ replicate (m - 8 * length ranks) 0 ≡ number_bytes (filled width (pointers ranks))
filled_block width m ranks size =
    ap (λ n. number_bytes (pointers ranks) ++ replicate (n - 8 * length ranks) 0) size
    ∙ ap (λ n. number_bytes (pointers ranks) ++ replicate (8 * width - 8 * n) 0) (sym (length-pointers ranks))
    ∙ sym (number_bytes-filled width (pointers ranks))

pub returns-then-i-pointer_blocks : goal.returns-then-i-pointer_blocks
returns-then-i-pointer_blocks c =
    let s : Shape = c.args.shape in
    let ranks = c.args.ranks.now in
    let n = c.in-Ok.plan.pointer_blocks in
    let part = c.part.result.now in
    let is : part ≡ get_or (parts c.args.shape.big (drop n ranks)) c.args.i [] =
    c.part.ensures ∙ ap (λ xs. get_or (parts c.from-width.result xs) c.args.i []) (take_rest ranks n)
    ∙ ap (λ width. get_or (parts width (drop n ranks)) c.args.i []) (c.from-width.ensures ∙ c.big.ensures.big) in
    pointer_block s ranks c.args.ids.now c.in-Ok.plan c.in-Ok.ensures.limits.block_some c.in-Ok.ensures.plan c.requires.ranks c.args.i part c.if-i-pointer_blocks.true is
    ∙ ap (λ bytes. Some bytes) (sym (c.write_pointers.ensures ∙ filled_block c.args.shape.big (length c.args.out.now) part c.requires.size))

pub returns-else-i-pointer_blocks : goal.returns-else-i-pointer_blocks
returns-else-i-pointer_blocks c =
    let s : Shape = c.args.shape in
    let n = c.in-Ok.plan.pointer_blocks in
    data_block s c.args.ranks.now c.args.ids.now c.in-Ok.plan c.in-Ok.ensures.limits.block_some c.in-Ok.ensures.plan c.requires.ranks c.args.i c.if-i-pointer_blocks.false c.requires.within
    ∙ ap (λ bytes. Some bytes) (sym (c.pack.ensures ∙ ap (λ width. number_bytes (get_or (blocks width c.args.ids.now) (c.args.i - n) [])) (c.from-width.ensures ∙ c.big.ensures.big)))
