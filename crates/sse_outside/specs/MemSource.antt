-- A contract's view of a source in memory.
use Rattle.std.specs.Prelude.{ℕ, List, drop}
use Rattle.sse_outside.specs.declared.mem_source.MemSource.{MemSource}

-- the bytes that are left
abbrev pub left_of : MemSource → List ℕ
left_of s = drop s.at s.bytes.items

-- how many bytes it has handed out
abbrev pub handed_out_of : MemSource → ℕ
handed_out_of s = s.at

-- the numbers of the calls that fail, counted from 0
abbrev pub fails_of : MemSource → List ℕ
fails_of s = s.calls.failing.items

-- the number of the next call
abbrev pub next_call_of : MemSource → ℕ
next_call_of s = s.calls.call

-- its count of faults
abbrev pub faults_of : MemSource → ℕ
faults_of s = s.calls.faults
