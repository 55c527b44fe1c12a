use Rattle.std.proofs.Common.{drop, ◌≡◌}
use Rattle.outside_memory_disk.specs.Picked.{picked, image_picked}
use Rattle.outside_memory_disk.specs.DiskCalls.{changes_of}
use Rattle.outside_memory_disk.proofs.recorded.Recorded.image_bytes.Given as goal

-- the rest of the calls makes of what is there now the image of all calls
abbrev pub invariant-loop-call : goal.invariant-loop-call
invariant-loop-call l = picked l.pick l.rest l.file.items l.image.items (changes_of (drop l.call-index l.call-items)) ≡ image_picked l.pick l.self.first.items (changes_of l.self.calls.items)
