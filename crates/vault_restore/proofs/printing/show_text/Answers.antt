use Rattle.std.proofs.Common.{refl}
use Rattle.vault_script.specs.VaultShown.{Fetched}
use Rattle.vault_restore.specs.RestoredLines.{TextLine}
use Rattle.vault_restore.proofs.VisitLaws.{slot-printed}
use Rattle.vault_restore.proofs.printing.show_text.Goals as goal

pub returns-clause-prints : goal.returns-clause-prints
returns-clause-prints g c = slot-printed (TextLine c.args.id c.args.body.now) (Fetched c.args.id c.args.body.now) _ _ c.show.result refl c.show.ensures.prints
