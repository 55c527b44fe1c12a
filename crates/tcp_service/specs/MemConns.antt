-- A contract's view of connections in memory.
use Rattle.std.specs.Prelude.{ℕ, ◌-◌, Bool, List, length, reverse, slice_get, Option}
use Rattle.std.specs.Option.{option_map}
use Rattle.sse_outside.specs.MemSink.{bytes_of}
use Rattle.tcp_service.specs.QueuedConns.{MemConn, given_of}
use Rattle.tcp_service.specs.declared.mem_conns.MemConns.{MemConns}

abbrev pub offered_by : MemConns → List MemConn
offered_by c = given_of c.waiting.items c.all.value.items

abbrev pub returned_by : MemConns → List MemConn
returned_by c = c.back.items

-- how many were given
abbrev pub given_by : MemConns → ℕ
given_by c = length c.all.value.items - length c.waiting.items

-- how many of them weren't given back
abbrev pub lent_by : MemConns → ℕ
lent_by c = c.lent

abbrev pub ended_by : MemConns → Bool
ended_by c = c.ended

-- how many wait
abbrev pub left_by : MemConns → ℕ
left_by c = length c.waiting.items

-- those that wait, the next one first
abbrev pub to_come : MemConns → List MemConn
to_come c = reverse c.waiting.items

-- the bytes that were written to the one that was given back at this place
abbrev pub written_by : MemConns → ℕ → Option (List ℕ)
written_by c i = option_map (λ conn. bytes_of conn.sink) (slice_get c.back.items i)

-- the numbers of the calls that fail, counted from 0, and the number of the next call
abbrev pub fails_by : MemConns → List ℕ
fails_by c = c.calls.failing.items

abbrev pub next_call_by : MemConns → ℕ
next_call_by c = c.calls.call

abbrev pub faults_by : MemConns → ℕ
faults_by c = c.calls.faults
