use Rattle.std.proofs.Common.{refl}
use Rattle.rand_chacha.specs.Block.{quarter_round}
use Rattle.chacha_stream.proofs.first_block.quarter_round.Goals as goal

pub returns : goal.returns
unfolding quarter_round
returns c =
    rw (
      c.xor_rotate-b2.ensures,
      c.add-c2.ensures,
      c.xor_rotate-d2.ensures,
      c.add-a2.ensures,
      c.xor_rotate-b1.ensures,
      c.add-c1.ensures,
      c.xor_rotate-d1.ensures,
      c.add-a1.ensures,
    ) refl
