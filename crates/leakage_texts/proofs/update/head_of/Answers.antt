use Rattle.std.proofs.Common.{sym}
use Rattle.leakage_texts.proofs.update.head_of.Goals as goal

pub returns : goal.returns
returns c = rw (sym c.plural-words_are.ensures) c.format.ensures.ok
