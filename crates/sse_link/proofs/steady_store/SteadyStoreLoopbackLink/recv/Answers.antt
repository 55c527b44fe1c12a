use Rattle.std.proofs.Common.{arith}
use Rattle.sse_link.proofs.steady_store.SteadyStoreLoopbackLink.recv.Goals as goal

-- its disk never fails
pub returns-clause-no_fault : goal.returns-clause-no_fault
returns-clause-no_fault g c = c.recv.ensures.no_fault (λ before now rose. omega (arith, rose))
