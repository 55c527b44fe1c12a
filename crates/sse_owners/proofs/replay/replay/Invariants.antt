use Rattle.std.proofs.Common.{◌≡◌, ◌-◌, ◌≤◌, ℕ, List, length}
use Rattle.std.specs.Prelude.{map}
use Rattle.sse_outside.specs.Images.{NoOther}
use Rattle.sse_journal.specs.AnyMoment.{LeavesOnly}
use Rattle.sse_journal.specs.JournalView.{end_of, IsJournalOf}
use Rattle.sse_owners.proofs.OwnedReplay.{IsHere}
use Rattle.sse_owners.proofs.replay.replay.Given as goal

abbrev pub invariant-records : goal.invariant-records
invariant-records g l = record {
  count : l.number ≤ l.at;
  long : length l.servers ≡ length l.initial.servers;
  kept : g.D.Disk.content l.disk ≡ g.D.Disk.content l.initial.disk;
  images_kept : NoOther (g.D.Disk.images l.initial.disk) (g.D.Disk.images l.disk);
  quiet : LeavesOnly g.D.Disk.moment g.D.Disk.left_since l.initial.disk l.disk (g.D.Disk.images l.initial.disk);
  steady : g.D.Disk.faults l.disk ≡ g.D.Disk.faults l.initial.disk;
  here : (payloads : List (List ℕ)) → IsJournalOf payloads l.journal (g.D.Disk.content l.initial.disk) (g.D.Disk.images l.initial.disk) → IsHere l.numbers payloads l.at l.number (map (λ server. server.state) l.servers);
}

abbrev pub decreases-records : goal.decreases-records
decreases-records g l = end_of l.journal - l.at
