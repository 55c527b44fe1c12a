use Rattle.std.proofs.Common.{◌≡◌, ◌+◌, ◌++◌, length, drop, sym, ap, ◌∙◌}
use Rattle.sse_journal.specs.Files.{GivesWithOrWithout}
use Rattle.sse_journal.specs.JournalView.{broken_by}
use Rattle.sse_journal.proofs.Moments.{each}
use Rattle.vault_server.specs.VaultServerView.{VaultServerView}
use Rattle.vault_server.specs.VaultState.{vault_records}
use Rattle.vault_served.specs.Fronts.{IsFramed}
use Rattle.vault_served.specs.Turns.{frame_of}
use Rattle.vault_served.proofs.DiskAnswers.{disk-answered}
use Rattle.vault_served.proofs.LastingUpdates.{lasts_answered}
use Rattle.vault_served.proofs.front.take_front.Goals as goal

-- the frame stands in front of what is left, and the vault answered its body
pub returns-clause-fronted : goal.returns-clause-fronted
returns-clause-fronted g c =
    let body = c.in-Framed.body.now in
    let held = c.args.incoming.now in
    let disk = c.args.disk.now in
    let disk2 = c.answer.new.disk in
    let said = c.answer.ensures in
    let framed : IsFramed body c.pending.result.now = c.in-Framed.ensures.spelled in
    let spelled : held ≡ frame_of body ++ c.consume.new.self =
    sym c.pending.ensures ∙ framed.spelled ∙ ap (λ l. frame_of body ++ l) (ap (drop (4 + length body)) c.pending.ensures ∙ sym c.consume.ensures) in (
      body,
      framed.sized,
      spelled,
      said.step,
      lasts_answered g.D.Disk.content g.D.Disk.images disk disk2 c.args.server.now c.answer.new.self body c.answer.result said.stays said.step.not_taken
          (λ frames unbroken is bytes image.
          let leaves = said.journal.any_moment frames unbroken is in
          each g.D.Disk.moment g.D.Disk.left_since disk disk2 (GivesWithOrWithout (vault_records frames) body) leaves bytes (g.met.D.Disk.counts_now disk2 (g.D.Disk.moment disk) bytes leaves.later image))
          said.step.reply (λ n took. (said.left.whole n took).0) said.journal.added,
    )

-- and its disk failed if it says so
pub returns-clause-disk : goal.returns-clause-disk
returns-clause-disk g c =
    let said = c.answer.ensures in
    disk-answered (broken_by c.args.server.now.journal) (broken_by c.answer.new.self.journal) (g.D.Disk.faults c.args.disk.now) (g.D.Disk.faults c.answer.new.disk) c.answer.result
    said.count.later said.count.failed said.count.steady said.left.failed_breaks (λ some. ap (λ (s : VaultServerView). broken_by s.journal) (said.stays.broken some).1) said.stays.breaks
