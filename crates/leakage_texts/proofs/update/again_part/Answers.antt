use Rattle.std.proofs.lemmas.List.{append-nil}
use Rattle.std.specs.Prelude.{decimal}
use Rattle.leakage_texts.proofs.update.again_part.Goals as goal

pub returns-in-None : goal.returns-in-None
returns-in-None c = rw (c.in-None.is, append-nil (decimal c.args.origin.command)) c.format-in-None.ensures.ok
