use Rattle.std.proofs.Common.{◌≡◌, drop}
use Rattle.sse_link.specs.FailingLoopback.{failure_at}
use Rattle.sse_link.proofs.loopback.fail_at.Given as goal

-- none of those that were looked at is the call
abbrev pub invariant-loop-fail : goal.invariant-loop-fail
invariant-loop-fail l = failure_at l.fails l.call ≡ failure_at (drop l.fail-index l.fails) l.call
