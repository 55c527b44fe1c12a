use Rattle.std.proofs.Common.{ap}
use Rattle.sse_frames.specs.FrameViews.{frame_view}
use Rattle.sse_journal.specs.JournalView.{broken_by}
use Rattle.server_connections.proofs.DiskCauses.{disk-handled}
use Rattle.server_connections.proofs.OwnersKept.{owners_kept}
use Rattle.server_connections.proofs.keeps.OwnersKeeps.keep.Goals as goal

-- what the owners' servers have taken lasts
pub returns-clause-lasts : goal.returns-clause-lasts
returns-clause-lasts g c since frames is =
    let disk = c.args.disk.now in
    let disk2 = c.handle.new.disk in
    owners_kept since frames (frame_view c.args.frame.now) c.handle.result c.args.self.now c.handle.new.self (g.D.Disk.content disk) (g.D.Disk.content disk2) (g.D.Disk.images disk) (g.D.Disk.images disk2) c.handle.ensures.others c.handle.ensures.lasts is

-- and the disk failed if the answer says so
pub returns-clause-disk : goal.returns-clause-disk
returns-clause-disk g c =
    let said = c.handle.ensures in
    disk-handled (broken_by c.args.self.now.journal) (broken_by c.handle.new.self.journal) (g.D.Disk.faults c.args.disk.now) (g.D.Disk.faults c.handle.new.disk) _ c.handle.result
    said.faults.later said.faults.failed said.faults.steady (λ is. (said.answered.store_fault is).1) said.journal.stays_broken (λ broken. ap broken_by (said.journal.broken broken).1) said.journal.breaks
