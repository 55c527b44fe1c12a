use Rattle.client_registry.proofs.MarkLaws.{IsDistinct-sorted}
use Rattle.client_registry.proofs.word_mark.differ.Goals as goal

pub returns : goal.returns
returns c = λ rises. IsDistinct-sorted c.args.numbers.now c.sort_unstable.new.self c.sort_unstable.ensures.permutation (c.rise.ensures rises)
