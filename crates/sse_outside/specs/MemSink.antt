-- A contract's view of a sink in memory.
use Rattle.std.specs.Prelude.{ℕ, List}
use Rattle.sse_outside.specs.declared.mem_sink.MemSink.{MemSink}

-- the bytes that were written
abbrev pub bytes_of : MemSink → List ℕ
bytes_of s = s.bytes.items

-- the numbers of the calls that fail, counted from 0
abbrev pub fails_of : MemSink → List ℕ
fails_of s = s.calls.failing.items

-- the number of the next call
abbrev pub next_call_of : MemSink → ℕ
next_call_of s = s.calls.call

-- its count of calls that lacked memory
abbrev pub shortages_of : MemSink → ℕ
shortages_of s = s.shortages

-- its count of faults
abbrev pub faults_of : MemSink → ℕ
faults_of s = s.calls.faults
