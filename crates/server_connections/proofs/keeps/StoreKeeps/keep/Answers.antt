use Rattle.std.proofs.Common.{ap, subst}
use Rattle.sse_frames.specs.Frames.{body_of}
use Rattle.sse_frames.specs.FrameViews.{frame_view}
use Rattle.sse_journal.specs.Files.{GivesWithOrWithout}
use Rattle.sse_journal.specs.JournalView.{broken_by}
use Rattle.sse_journal.proofs.Moments.{each}
use Rattle.sse_server.specs.Taken.{bodies}
use Rattle.server_connections.proofs.LastingFrames.{lasts_handled}
use Rattle.server_connections.proofs.DiskCauses.{disk-handled}
use Rattle.server_connections.proofs.keeps.StoreKeeps.keep.Goals as goal

-- what it has taken lasts
pub returns-clause-lasts : goal.returns-clause-lasts
returns-clause-lasts g c =
    let said = c.handle.ensures in
    let disk = c.args.disk.now in
    let disk2 = c.handle.new.disk in
    let frame = frame_view c.args.frame.now in
    lasts_handled c.args.self.now c.handle.new.self (g.D.Disk.content disk) (g.D.Disk.content disk2) (g.D.Disk.images disk) (g.D.Disk.images disk2) frame c.handle.result
    said.added (λ q took. (said.whole q took).0)
    (λ broken.
    let same = said.broken broken in
    record { journal = same.1; state = same.2; no_other = λ bytes image. subst (λ d. g.D.Disk.images d bytes) same.0 image })
    said.breaks said.no_memory said.store_fault
    (λ frames unbroken is bytes image.
    let leaves = said.any_moment frames unbroken is in
    each g.D.Disk.moment g.D.Disk.left_since disk disk2 (GivesWithOrWithout (bodies frames) (body_of frame)) leaves bytes (g.met.D.Disk.counts_now disk2 (g.D.Disk.moment disk) bytes leaves.later image))
    said.stays

-- and its disk failed where it says so
pub returns-clause-disk : goal.returns-clause-disk
returns-clause-disk g c =
    let said = c.handle.ensures in
    disk-handled (broken_by c.args.self.now.journal) (broken_by c.handle.new.self.journal) (g.D.Disk.faults c.args.disk.now) (g.D.Disk.faults c.handle.new.disk) _ c.handle.result
    said.later said.failed said.steady (λ is. (said.store_fault is).1) said.stays_broken (λ broken. ap broken_by (said.broken broken).1) said.breaks
