use Rattle.std.proofs.Common.{◌≡◌}
use Rattle.sse_outside.proofs.std_sink.write_retrying.Given as goal

-- an interrupted write leaves nothing
abbrev pub invariant-loop : goal.invariant-loop
invariant-loop g l = g.W.Write.contents l.writer ≡ g.W.Write.contents l.fn.writer
