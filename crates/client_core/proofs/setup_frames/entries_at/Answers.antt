use Rattle.std.proofs.Common.{◌≡◌, ◌+◌, ◌*◌, ℕ, List, [], length, get_or, refl, sym, ap, subst, ◌∙◌, arith}
use Rattle.std.specs.Int.{div_ceil}
use Rattle.list_packing.specs.Parts.{parts}
use Rattle.sse_frames.specs.Frames.{SetupDict, IsSetupDict}
use Rattle.sse_frames.specs.FrameViews.{entries_in}
use Rattle.index_setup.specs.Built.{IsIndex}
use Rattle.index_setup.specs.declared.index.Index.{Index}
use Rattle.client_core.proofs.PartsOfItems.{there, part_count, part_entries, length-part_bytes}
use Rattle.client_core.proofs.SetupFrames.{entries_whole, IsSetupDict-part}
use Rattle.client_core.proofs.setup_frames.entries_at.Goals as goal

whole_of : (index : Index) → IsIndex index → length index.entries ≡ index.words * (16 + (1 + 8 * index.b))
whole_of index is = entries_whole _ index.words index.b index.entries is.whole refl

-- a part of the dictionary's bytes
part_is : (size width i : ℕ) (bytes seen part : List ℕ) → width ≡ size → seen ≡ bytes → part ≡ get_or (parts (1024 * (16 + width)) seen) i []
    → part ≡ get_or (parts (1024 * (16 + size)) bytes) i []
part_is size width i bytes seen part e f g = g ∙ (λ k. get_or (parts (1024 * (16 + e k)) (f k)) i [])

pub part-entries-requires-clause-within : goal.part-entries-requires-clause-within
part-entries-requires-clause-within c =
    let index = c.args.index.now in
    let low = there (16 + (1 + 8 * index.b)) 1024 index.words c.args.i index.entries (omega arith) (omega arith) (whole_of index c.entries.ensures.limits) c.requires.part in
    let same : div_ceil (length c.entries.result.now) (1024 * (16 + c.cell_size-width.result)) ≡ div_ceil (length index.entries) (1024 * (16 + (1 + 8 * index.b))) =
    λ k. div_ceil (length (c.entries.ensures.bytes k)) (1024 * (16 + c.cell_size-width.ensures k)) in
    omega (arith, low, same)

pub returns-clause-seen : goal.returns-clause-seen
returns-clause-seen c =
    let index = c.args.index.now in
    let is = part_is (1 + 8 * index.b) c.cell_size-width.result c.args.i index.entries c.entries.result.now c.part-entries.result.now c.cell_size-width.ensures c.entries.ensures.bytes c.part-entries.ensures in
    c.dictionary_part.ensures.seen
    ∙ (λ k. SetupDict c.args.q (c.cell_size-width.ensures k) (entries_in (c.cell_size-width.ensures k) (is k)))
    ∙ ap (SetupDict c.args.q (1 + 8 * index.b)) (part_entries (1 + 8 * index.b) 1024 index.words c.args.i index.entries (omega arith) (whole_of index c.entries.ensures.limits) c.requires.part)

pub dictionary_part-requires-clause-grammar : goal.dictionary_part-requires-clause-grammar
dictionary_part-requires-clause-grammar c = λ bytes.
    let index = c.args.index.now in
    let is = part_is (1 + 8 * index.b) c.cell_size-width.result c.args.i index.entries c.entries.result.now c.part-entries.result.now c.cell_size-width.ensures c.entries.ensures.bytes c.part-entries.ensures in
    subst (λ w. IsSetupDict c.args.q w (entries_in w c.part-entries.result.now)) (sym c.cell_size-width.ensures)
    (IsSetupDict-part index.b index.words c.args.i c.args.q index.entries c.part-entries.result.now c.entries.ensures.limits.some c.entries.ensures.limits.cell (whole_of index c.entries.ensures.limits) c.requires.part is
    bytes c.requires.number c.requires.rises)

pub dictionary_part-requires-clause-sizes : goal.dictionary_part-requires-clause-sizes
dictionary_part-requires-clause-sizes c =
    let index = c.args.index.now in
    let is = part_is (1 + 8 * index.b) c.cell_size-width.result c.args.i index.entries c.entries.result.now c.part-entries.result.now c.cell_size-width.ensures c.entries.ensures.bytes c.part-entries.ensures in
    let count : ℕ = part_count 1024 index.words c.args.i in
    record {
      count = count;
      whole =
          ap length is
          ∙ length-part_bytes (16 + (1 + 8 * index.b)) 1024 index.words c.args.i index.entries (omega arith) (omega arith) (whole_of index c.entries.ensures.limits) c.requires.part
          ∙ ap (λ w. count * (16 + w)) (sym c.cell_size-width.ensures);
    }
