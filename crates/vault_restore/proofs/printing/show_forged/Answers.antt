use Rattle.std.proofs.Common.{refl}
use Rattle.vault_script.specs.VaultShown.{Forged}
use Rattle.vault_restore.specs.RestoredLines.{ForgedLine}
use Rattle.vault_restore.proofs.VisitLaws.{slot-printed}
use Rattle.vault_restore.proofs.printing.show_forged.Goals as goal

pub returns-clause-prints : goal.returns-clause-prints
returns-clause-prints g c = slot-printed (ForgedLine c.args.id) (Forged c.args.id) _ _ c.show.result refl c.show.ensures.prints
