use Rattle.std.proofs.Common.{◌≡◌, ◌-◌}
use Rattle.sse_outside.specs.Images.{NoOther}
use Rattle.sse_journal.specs.AnyMoment.{LeavesOnly}
use Rattle.sse_journal.specs.JournalView.{end_of, IsJournalOf}
use Rattle.client_journal.proofs.Recorded.{IsHere}
use Rattle.client_journal.proofs.journal_rebuild.take_all.Given as goal

abbrev pub invariant-records : goal.invariant-records
invariant-records g l = record {
  key : l.rebuilt.key ≡ l.initial.rebuilt.key;
  mark : l.rebuilt.mark ≡ l.initial.rebuilt.mark;
  hash_keys : l.rebuilt.hash_keys ≡ l.initial.rebuilt.hash_keys;
  kept : g.D.Disk.content l.disk ≡ g.D.Disk.content l.initial.disk;
  images_kept : NoOther (g.D.Disk.images l.initial.disk) (g.D.Disk.images l.disk);
  quiet : LeavesOnly g.D.Disk.moment g.D.Disk.left_since l.initial.disk l.disk (g.D.Disk.images l.initial.disk);
  steady : g.D.Disk.faults l.disk ≡ g.D.Disk.faults l.initial.disk;
  here : IsHere (λ all. IsJournalOf all l.journal (g.D.Disk.content l.initial.disk) (g.D.Disk.images l.initial.disk)) l.at l.rebuilt;
}

abbrev pub decreases-records : goal.decreases-records
decreases-records g l = end_of l.journal - l.at
