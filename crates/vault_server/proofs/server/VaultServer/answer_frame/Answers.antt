use Rattle.vault_server.proofs.Staying.{took_stays}
use Rattle.vault_server.proofs.server.VaultServer.answer_frame.Goals as goal

pub returns-in-Ok-clause-stays : goal.returns-in-Ok-clause-stays
returns-in-Ok-clause-stays g c = took_stays g.D.Disk.content g.D.Disk.images c.args.disk.now c.take.new.disk c.args.self.now c.take.new.self c.in-Some.n c.in-Ok.ensures.journal.whole
