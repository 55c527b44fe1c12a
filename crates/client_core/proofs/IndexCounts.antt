-- How many entries and blocks the bytes of an index hold, and how many frames it takes.
use Rattle.std.proofs.Common.{◌≡◌, ◌+◌, ◌*◌, ◌<◌, length, refl, arith}
use Rattle.std.proofs.lemmas.Grind.{div_ceil_times}
use Rattle.sse_frames.specs.FrameViews.{entries_in, items_in}
use Rattle.sse_frames.proofs.Chunks.{length-entries_in, length-items_in}
use Rattle.index_setup.specs.Built.{IsIndex}
use Rattle.index_setup.specs.declared.index.Index.{Index}
use Rattle.client_core.proofs.FramesAt.{length-frames}
use Rattle.client_core.proofs.SetupFrames.{entries_whole}
use Rattle.client_core.specs.Setup.{frames_in, index_frames}

pub entries_are : (index : Index) → IsIndex index → length index.entries ≡ index.words * (16 + (1 + 8 * index.b))
entries_are index is = entries_whole _ index.words index.b index.entries is.whole refl

pub words_held : (index : Index) → IsIndex index → length (entries_in (1 + 8 * index.b) index.entries) ≡ index.words
words_held index is = length-entries_in (1 + 8 * index.b) index.words index.entries (entries_are index is)

pub blocks_held : (index : Index) → IsIndex index → length (items_in (8 * index.big) index.array) ≡ index.blocks
blocks_held index is = length-items_in (8 * index.big) index.blocks index.array (omega (arith, is.block_some)) is.array_whole

pub length-index_frames : (index : Index) → IsIndex index → length (index_frames index) ≡ frames_in index
length-index_frames index is =
    length-frames index.b index.big index.words index.blocks (entries_in (1 + 8 * index.b) index.entries) (items_in (8 * index.big) index.array) (words_held index is) (blocks_held index is)

-- each has a number
pub frames_within : (index : Index) → IsIndex index → frames_in index < 0xffffffff
frames_within index is =
    omega (arith, (div_ceil_times index.words 1024 (omega arith)).1, (div_ceil_times index.blocks 256 (omega arith)).1, is.most, is.few_blocks)
