use Rattle.std.proofs.Common.{◌≡◌, ◌-◌}
use Rattle.sse_journal.specs.JournalView.{end_of, IsJournalOf}
use Rattle.vault_client.specs.OnlyRead.{IsOnlyRead}
use Rattle.vault_client.proofs.RecordsTaken.{IsHere}
use Rattle.vault_client.proofs.recovery.take_all.Given as goal

abbrev pub invariant-records : goal.invariant-records
invariant-records g l = record {
  mark : l.rebuilt.mark ≡ l.initial.rebuilt.mark;
  keys : l.rebuilt.shelf.keys ≡ l.initial.rebuilt.shelf.keys;
  reads : IsOnlyRead g.D.Disk.content g.D.Disk.images g.D.Disk.moment g.D.Disk.left_since l.initial.disk l.disk;
  steady : g.D.Disk.faults l.disk ≡ g.D.Disk.faults l.initial.disk;
  here : IsHere (λ all. IsJournalOf all l.journal (g.D.Disk.content l.initial.disk) (g.D.Disk.images l.initial.disk)) l.at l.rebuilt;
}

abbrev pub decreases-records : goal.decreases-records
decreases-records g l = end_of l.journal - l.at
