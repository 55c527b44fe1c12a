use Rattle.std.proofs.Common.{◌∙◌}
use Rattle.chacha_stream.proofs.FirstBlocks.{words_are, bytes_are}
use Rattle.chacha_stream.proofs.first_block.first_block.Goals as goal

pub returns : goal.returns
returns c =
    let first = c.first_state-first.result in
    let last = c.twenty_rounds-last.result in
    c.bytes_of.ensures
    ∙ bytes_are c.args.key.now c.args.n c.sums.result
    (words_are c.args.key.now c.args.n c.sums.result last first c.ranges.n.fits c.first_state-first.ensures c.twenty_rounds-last.ensures c.sums.ensures)
