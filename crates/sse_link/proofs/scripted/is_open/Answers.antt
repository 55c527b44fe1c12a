use Rattle.sse_frames.specs.Replies.{Page}
use Rattle.std.proofs.Common.{false}
use Rattle.sse_link.proofs.scripted.is_open.Goals as goal

-- no reply has these bytes
pub returns-in-None : goal.returns-in-None
returns-in-None c = (λ more. absurd cc, λ is. absurd (c.in-None.ensures.only (Page false is.ids) is.is))
