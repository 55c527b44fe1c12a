use Rattle.sse_frames.specs.Replies.{Page}
use Rattle.client_replies.proofs.page_in.page_in.Goals as goal

pub returns-in-None-clause-none : goal.returns-in-None-clause-none
returns-in-None-clause-none c e last ids is = c.in-None.ensures.only (Page last ids) is
