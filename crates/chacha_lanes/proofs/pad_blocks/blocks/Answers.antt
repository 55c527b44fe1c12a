use Rattle.std.proofs.Common.{◌≡◌, ◌∙◌, ◌∷◌, [], flat_map, slice_index, slice_index_or}
use Rattle.std.specs.Int.{w32, to_le_bytes}
use Rattle.rand_chacha.specs.Lanes.{lane}
use Rattle.chacha_lanes.proofs.BlockWords.{bytes_are}
use Rattle.chacha_lanes.proofs.Rotations.{below_eight}
use Rattle.chacha_lanes.proofs.pad_blocks.blocks.Goals as goal

pub returns : goal.returns
returns c j below =
    let words = lane j c.words-words.result in
    below_eight (λ j. slice_index_or (c.bytes_in.result ∷ c.bytes_in-2.result ∷ c.bytes_in-3.result ∷ c.bytes_in-4.result
    ∷ c.bytes_in-5.result ∷ c.bytes_in-6.result ∷ c.bytes_in-7.result ∷ c.bytes_in-8.result ∷ []) j [] ≡ flat_map (to_le_bytes w32) (lane j c.words-words.result))
    c.bytes_in.ensures c.bytes_in-2.ensures c.bytes_in-3.ensures c.bytes_in-4.ensures
    c.bytes_in-5.ensures c.bytes_in-6.ensures c.bytes_in-7.ensures c.bytes_in-8.ensures j below
    ∙ bytes_are (slice_index_or c.args.keys.now j []) (slice_index c.args.numbers.now j) c.args.counter words (c.words-words.ensures j below)
