-- A contract's view of a sink over a writer of std.
use Rattle.std.specs.Prelude.{ℕ, List}
use Rattle.std.specs.declared.option.Option.{Option}
use Rattle.std.specs.declared.io.traits.Write as std_write
use Rattle.sse_outside.specs.declared.std_sink.StdSink.{StdSink}

module _ {W : Type 0} {writes : std_write.Ghosts W} where
  -- the bytes that its writer tells
  abbrev pub written_of : StdSink W writes → Option (List ℕ)
  written_of s = writes.contents s.writer

  -- its count of faults
  abbrev pub faults_of : StdSink W writes → ℕ
  faults_of s = s.faults

  -- its count of calls that lacked memory: there are none
  abbrev pub shortages_of : StdSink W writes → ℕ
  shortages_of s = 0
