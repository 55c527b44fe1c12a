-- Connections in memory, by those that wait to be given.
use Rattle.std.specs.Prelude.{◌≡◌, List, length, take, drop, reverse}
use Rattle.sse_outside.specs.declared.mem_source.MemSource.{MemSource}
use Rattle.sse_outside.specs.declared.mem_sink.MemSink.{MemSink}
use Rattle.tcp_service.specs.declared.duplex.Duplex.{Duplex}

abbrev pub MemConn : Type 0
MemConn = Duplex MemSource MemSink

-- those that wait are the first of all, the last one of these being the next
abbrev pub IsFront : (waiting all : List MemConn) → Type 0
IsFront waiting all = take (length waiting) all ≡ waiting

-- those that were given, in order: all stand with the last one first
abbrev pub given_of : (waiting all : List MemConn) → List MemConn
given_of waiting all = reverse (drop (length waiting) all)
