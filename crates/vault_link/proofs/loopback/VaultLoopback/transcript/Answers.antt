use Rattle.std.proofs.Common.{subst}
use Rattle.vault_link.specs.Loopbacks.{LoopbackState}
use Rattle.vault_link.specs.Served.{AreServed}
use Rattle.vault_link.proofs.ServedLaws.{served-plain}
use Rattle.vault_link.proofs.loopback.VaultLoopback.transcript.Goals as goal

pub returns-clause-plain : goal.returns-clause-plain
returns-clause-plain g c = served-plain c.args.self.now.began c.args.self.now.exchanges c.args.self.now.server.state (subst (λ (l : LoopbackState). AreServed l.began l.exchanges l.server.state) c.self.view_is c.self.invariant.served)
