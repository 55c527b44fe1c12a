use Rattle.std.proofs.Common.{false}
use Rattle.sse_frames.specs.Replies.{Page, StoreFault}
use Rattle.client_stream_link.proofs.stream.StreamLink.received.Goals as goal

-- no reply has these bytes
pub returns-in-None-clause-due : goal.returns-in-None-clause-due
returns-in-None-clause-due g c = (λ more. absurd cc, λ is. absurd (c.in-None.ensures.only (Page false is.ids) is.is))

pub returns-in-None-clause-store_fault : goal.returns-in-None-clause-store_fault
returns-in-None-clause-store_fault g c is = absurd (c.in-None.ensures.only StoreFault (record { grammar = _; spelled = is }))
