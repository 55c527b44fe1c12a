-- The calls that a disk in memory records, as changes.
use Rattle.std.specs.Prelude.{List, map}
use Rattle.sse_outside.specs.Changes.{Change, Wrote, FailedToWrite, CutTo, FailedToCut, Synced}
use Rattle.outside_memory_disk.specs.declared.disk_call.DiskCall.{DiskCall}
use Rattle.outside_memory_disk.specs.declared.disk_call.DiskCall.TheVariants as calls

abbrev pub change_of : DiskCall → Change
change_of (calls.Wrote at bytes) = Wrote at bytes.items
change_of (calls.FailedToWrite at bytes) = FailedToWrite at bytes.items
change_of (calls.CutTo len) = CutTo len
change_of (calls.FailedToCut len) = FailedToCut len
change_of calls.Synced = Synced

abbrev pub changes_of : List DiskCall → List Change
changes_of made = map change_of made
