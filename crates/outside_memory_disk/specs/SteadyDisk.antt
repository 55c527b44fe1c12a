-- A contract's view of a disk in memory that never fails.
use Rattle.std.specs.Prelude.{ℕ, List}
use Rattle.sse_outside.specs.Changes.{Change}
use Rattle.outside_memory_disk.specs.Recorded as recorded
use Rattle.outside_memory_disk.specs.declared.steady_disk.SteadyDisk.{SteadyDisk}

-- the file that it began with
abbrev pub began_of : SteadyDisk → List ℕ
began_of d = recorded.first_of d.file

-- the changes since, the earliest first
abbrev pub changes_on : SteadyDisk → List Change
changes_on d = recorded.made_of d.file

-- the file as it reads
abbrev pub file_of : SteadyDisk → List ℕ
file_of d = recorded.bytes_of d.file

-- what may be there after a crash at this moment
abbrev pub images_of : SteadyDisk → List ℕ → Type 0
images_of d = recorded.images_of d.file

-- the moment: how many changes there were
abbrev pub moment_of : SteadyDisk → ℕ
moment_of d = recorded.moment_of d.file

-- what may be there after a crash at some moment from that one on
abbrev pub left_since_of : SteadyDisk → ℕ → List ℕ → Type 0
left_since_of d = recorded.left_since_of d.file
