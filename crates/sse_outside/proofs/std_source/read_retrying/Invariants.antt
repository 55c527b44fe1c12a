use Rattle.std.proofs.Common.{◌≡◌}
use Rattle.sse_outside.proofs.std_source.read_retrying.Given as goal

-- an interrupted read takes nothing
abbrev pub invariant-loop : goal.invariant-loop
invariant-loop g l = g.R.Read.remaining l.reader ≡ g.R.Read.remaining l.fn.reader
