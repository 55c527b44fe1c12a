use Rattle.std.proofs.Common.{[], slice_index, slice_index_or, ◌∙◌}
use Rattle.rand_chacha.specs.Lanes.{lane}
use Rattle.chacha_lanes.proofs.BlockWords.{words_are}
use Rattle.chacha_lanes.proofs.pad_blocks.words.Goals as goal

pub returns : goal.returns
returns c j below =
    let first = lane j c.initial_states-first.result in
    let last = lane j c.twenty_rounds-last.result in
    c.sums.ensures j below
    ∙ words_are (slice_index_or c.args.keys.now j []) (slice_index c.args.numbers.now j) c.args.counter last first c.ranges.counter.fits (c.fits-numbers j)
    (c.initial_states-first.ensures j below) (c.twenty_rounds-last.ensures j below)
