use Rattle.rand_chacha.specs.Block.{column_round}
use Rattle.chacha_stream.proofs.first_block.column_round.Goals as goal

pub returns : goal.returns
unfolding column_round
returns c =
    rw (
      ← c.quarter_round-x0.ensures,
      ← c.quarter_round-x1.ensures,
      ← c.quarter_round-x2.ensures,
      ← c.quarter_round-x3.ensures,
    )
