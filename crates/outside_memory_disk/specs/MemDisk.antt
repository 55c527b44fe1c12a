-- A contract's view of a disk in memory of which some calls fail.
use Rattle.std.specs.Prelude.{◌≡◌, ◌⊎◌, ℕ, List, Contains, Option, Some}
use Rattle.sse_outside.specs.Changes.{Change}
use Rattle.outside_memory_disk.specs.Recorded as recorded
use Rattle.outside_memory_disk.specs.declared.mem_disk.MemDisk.{MemDisk}

-- the file that it began with
abbrev pub began_of : MemDisk → List ℕ
began_of d = recorded.first_of d.file

-- the changes since, the earliest first
abbrev pub changes_on : MemDisk → List Change
changes_on d = recorded.made_of d.file

-- the file as it reads
abbrev pub file_of : MemDisk → List ℕ
file_of d = recorded.bytes_of d.file

-- what may be there after a crash at this moment
abbrev pub images_of : MemDisk → List ℕ → Type 0
images_of d = recorded.images_of d.file

-- the moment: how many changes there were
abbrev pub moment_of : MemDisk → ℕ
moment_of d = recorded.moment_of d.file

-- what may be there after a crash at some moment from that one on
abbrev pub left_since_of : MemDisk → ℕ → List ℕ → Type 0
left_since_of d = recorded.left_since_of d.file

-- the numbers of the calls that fail, counted from 0
abbrev pub fails_of : MemDisk → List ℕ
fails_of d = d.calls.failing.items

-- one number more
abbrev pub fail_more_of : MemDisk → Option ℕ
fail_more_of d = d.one_more

-- the number of the next call
abbrev pub next_call_of : MemDisk → ℕ
next_call_of d = d.calls.call

-- its count of faults
abbrev pub faults_of : MemDisk → ℕ
faults_of d = d.calls.faults

-- the next call fails
abbrev pub WillFail : MemDisk → Type 0
WillFail d = Contains (fails_of d) (next_call_of d) ⊎ (fail_more_of d ≡ Some (next_call_of d))
