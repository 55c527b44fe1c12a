-- A contract's view of the file of a disk in memory.
use Rattle.std.specs.Prelude.{ℕ, List, length}
use Rattle.sse_outside.specs.Changes.{Change, IsImage, WasLeft}
use Rattle.outside_memory_disk.specs.DiskCalls.{changes_of}
use Rattle.outside_memory_disk.specs.declared.recorded.Recorded.{Recorded}

-- the file that it began with, all of it durable
abbrev pub first_of : Recorded → List ℕ
first_of r = r.first.items

-- the changes since, the earliest first
abbrev pub made_of : Recorded → List Change
made_of r = changes_of r.calls.items

-- the file as it reads
abbrev pub bytes_of : Recorded → List ℕ
bytes_of r = r.bytes.items

-- what may be there after a crash at this moment
abbrev pub images_of : Recorded → List ℕ → Type 0
images_of r = IsImage (first_of r) (made_of r)

-- the moment: how many changes there were
abbrev pub moment_of : Recorded → ℕ
moment_of r = length (made_of r)

-- what may be there after a crash at some moment from that one on
abbrev pub left_since_of : Recorded → ℕ → List ℕ → Type 0
left_since_of r = WasLeft (first_of r) (made_of r)
