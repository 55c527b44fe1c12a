use Rattle.vault_server.specs.VaultFrames as replies
use Rattle.tcp_service.proofs.DiskCauses.{disk-more}
use Rattle.vault_served.specs.Lasting.{Lasts}
use Rattle.vault_served.proofs.DiskAnswers.{disk-refused, disk-replied}
use Rattle.vault_served.proofs.StepLaws.{Goes-more, Goes-refused, Goes-turn}
use Rattle.vault_served.proofs.connection.advance.Goals as goal

-- more was read
pub returns-in-Part-clause-goes : goal.returns-in-Part-clause-goes
returns-in-Part-clause-goes g c =
    let front = c.in-Part.ensures.fronted in
    Goes-more (Lasts g.D.Disk.content g.D.Disk.images) _ _ _ _ _ _ _ _ _ _ _ front.0 front.1 front.2 front.3 c.more.ensures.came

-- it was the length of no body
pub returns-in-Bad-clause-goes : goal.returns-in-Bad-clause-goes
returns-in-Bad-clause-goes g c =
    let front = c.in-Bad.ensures.fronted in
    Goes-refused (Lasts g.D.Disk.content g.D.Disk.images) _ _ _ _ c.take_front.new.incoming _ _ _ _ _ front.0 front.2 front.3 c.refuse.ensures.refused

-- a frame was answered
pub returns-in-Whole-clause-goes : goal.returns-in-Whole-clause-goes
returns-in-Whole-clause-goes g c =
    let front = c.in-Whole.ensures.fronted in
    Goes-turn (Lasts g.D.Disk.content g.D.Disk.images) _ _ _ _ _ _ _ _ _ front.0 _ _ front.1 front.2 front.3 front.4 c.reply.ensures.replied

-- The disk.

pub returns-in-Part-clause-disk_cause : goal.returns-in-Part-clause-disk_cause
returns-in-Part-clause-disk_cause g c = disk-more _ _ _ _ _ _ _ _ c.more.result c.more.ensures.came c.in-Part.ensures.disk

pub returns-in-Bad-clause-disk_cause : goal.returns-in-Bad-clause-disk_cause
returns-in-Bad-clause-disk_cause g c = disk-refused _ _ _ _ _ _ replies.BadFrame _ c.refuse.ensures.refused c.in-Bad.ensures.disk

pub returns-in-Whole-clause-disk_cause : goal.returns-in-Whole-clause-disk_cause
returns-in-Whole-clause-disk_cause g c = disk-replied _ _ _ _ _ _ c.take_front.new.server.state _ _ c.reply.ensures.replied c.in-Whole.ensures.disk
