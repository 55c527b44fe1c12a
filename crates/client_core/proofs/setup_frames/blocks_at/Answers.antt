use Rattle.std.proofs.Common.{◌≡◌, ◌*◌, ℕ, List, [], length, get_or, sym, ap, subst, ◌∙◌, arith}
use Rattle.std.specs.Int.{div_ceil}
use Rattle.list_packing.specs.Parts.{parts}
use Rattle.sse_frames.specs.Frames.{SetupArray, IsSetupArray}
use Rattle.sse_frames.specs.FrameViews.{items_in}
use Rattle.client_core.proofs.PartsOfItems.{there, part_count, part_items, length-part_bytes}
use Rattle.client_core.proofs.SetupFrames.{IsSetupArray-part}
use Rattle.client_core.proofs.setup_frames.blocks_at.Goals as goal

-- a part of the array's bytes
part_is : (size width i : ℕ) (bytes seen part : List ℕ) → width ≡ size → seen ≡ bytes → part ≡ get_or (parts (256 * width) seen) i [] → part ≡ get_or (parts (256 * size) bytes) i []
part_is size width i bytes seen part e f g = g ∙ (λ k. get_or (parts (256 * e k) (f k)) i [])

pub part-blocks-requires-clause-within : goal.part-blocks-requires-clause-within
part-blocks-requires-clause-within c =
    let index = c.args.index.now in
    let low = there (8 * index.big) 256 index.blocks c.args.i index.array (omega (arith, c.array.ensures.limits.block_some)) (omega arith) c.array.ensures.limits.array_whole c.requires.part in
    let same : div_ceil (length c.array.result.now) (256 * c.block_size-width.result) ≡ div_ceil (length index.array) (256 * (8 * index.big)) =
    λ k. div_ceil (length (c.array.ensures.bytes k)) (256 * c.block_size-width.ensures k) in
    omega (arith, low, same)

pub returns-clause-seen : goal.returns-clause-seen
returns-clause-seen c =
    let index = c.args.index.now in
    let is = part_is (8 * index.big) c.block_size-width.result c.args.i index.array c.array.result.now c.part-blocks.result.now c.block_size-width.ensures c.array.ensures.bytes c.part-blocks.ensures in
    c.array_part.ensures.seen
    ∙ (λ k. SetupArray c.args.q (c.block_size-width.ensures k) (items_in (c.block_size-width.ensures k) (is k)))
    ∙ ap (SetupArray c.args.q (8 * index.big))
    (part_items (8 * index.big) 256 index.blocks c.args.i index.array (omega (arith, c.array.ensures.limits.block_some)) (omega arith) c.array.ensures.limits.array_whole c.requires.part)

pub array_part-requires-clause-grammar : goal.array_part-requires-clause-grammar
array_part-requires-clause-grammar c = λ bytes.
    let index = c.args.index.now in
    let is = part_is (8 * index.big) c.block_size-width.result c.args.i index.array c.array.result.now c.part-blocks.result.now c.block_size-width.ensures c.array.ensures.bytes c.part-blocks.ensures in
    subst (λ w. IsSetupArray c.args.q w (items_in w c.part-blocks.result.now)) (sym c.block_size-width.ensures)
    (IsSetupArray-part index.big index.blocks c.args.i c.args.q index.array c.part-blocks.result.now c.array.ensures.limits.block_some c.array.ensures.limits.block c.array.ensures.limits.array_whole c.requires.part is
    bytes c.requires.number)

pub array_part-requires-clause-sizes : goal.array_part-requires-clause-sizes
array_part-requires-clause-sizes c =
    let index = c.args.index.now in
    let is = part_is (8 * index.big) c.block_size-width.result c.args.i index.array c.array.result.now c.part-blocks.result.now c.block_size-width.ensures c.array.ensures.bytes c.part-blocks.ensures in
    let count : ℕ = part_count 256 index.blocks c.args.i in
    record {
      count = count;
      whole =
          ap length is
          ∙ length-part_bytes (8 * index.big) 256 index.blocks c.args.i index.array (omega (arith, c.array.ensures.limits.block_some)) (omega arith) c.array.ensures.limits.array_whole c.requires.part
          ∙ ap (λ w. count * w) (sym c.block_size-width.ensures);
    }
