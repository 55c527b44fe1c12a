use Rattle.sse_frames.specs.Replies.{Took}
use Rattle.client_core.proofs.taken.acknowledges.Goals as goal

pub returns-in-None-clause-no : goal.returns-in-None-clause-no
returns-in-None-clause-no c e spelled = c.in-None.ensures.only (Took c.args.number) (record { grammar = c.requires; spelled = spelled })
