use Rattle.std.proofs.Common.{◌≡◌}
use Rattle.rand_chacha.specs.Block.{double_rounds}
use Rattle.chacha_stream.proofs.first_block.twenty_rounds.Given as goal

abbrev pub invariant-rounds : goal.invariant-rounds
invariant-rounds l = l.x ≡ double_rounds l._round l.fn.first
