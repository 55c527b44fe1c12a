use Rattle.std.proofs.Common.{◌≡◌, ◌-◌, ◌<◌, ◌≤◌, length}
use Rattle.std.specs.Prelude.{IfSome}
use Rattle.sse_outside.specs.Images.{NoOther}
use Rattle.sse_journal.specs.AnyMoment.{LeavesOnly}
use Rattle.sse_journal.specs.Walks.{IsWithin}
use Rattle.sse_journal.proofs.walk.walk.Given as goal

abbrev pub invariant-records : goal.invariant-records
invariant-records g l = record {
  inside : l.at < l.size;
  count : l.records ≤ l.at;
  kept : g.D.Disk.content l.disk ≡ g.D.Disk.content l.initial.disk;
  images_kept : NoOther (g.D.Disk.images l.initial.disk) (g.D.Disk.images l.disk);
  quiet : LeavesOnly g.D.Disk.moment g.D.Disk.left_since l.initial.disk l.disk (g.D.Disk.images l.initial.disk);
  steady : g.D.Disk.faults l.disk ≡ g.D.Disk.faults l.initial.disk;
  here : IfSome (g.D.Disk.content l.initial.disk) (λ bytes. (l.size ≡ length bytes) × IsWithin bytes l.at l.records);
}

abbrev pub decreases-records : goal.decreases-records
decreases-records g l = l.size - l.at
