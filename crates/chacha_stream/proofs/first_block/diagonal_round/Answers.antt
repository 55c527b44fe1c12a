use Rattle.rand_chacha.specs.Block.{diagonal_round}
use Rattle.chacha_stream.proofs.first_block.diagonal_round.Goals as goal

pub returns : goal.returns
unfolding diagonal_round
returns c =
    rw (
      ← c.quarter_round-x0.ensures,
      ← c.quarter_round-x1.ensures,
      ← c.quarter_round-x2.ensures,
      ← c.quarter_round-x3.ensures,
    )
