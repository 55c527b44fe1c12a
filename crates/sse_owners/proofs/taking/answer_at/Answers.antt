use Rattle.server_core.specs.State.{at_first}
use Rattle.sse_owners.proofs.Placed.{same}
use Rattle.sse_owners.proofs.taking.answer_at.Goals as goal

pub returns-clause-states : goal.returns-clause-states
returns-clause-states g c = same (λ server. server.state) c.args.servers.now c.args.place c.index-servers-place.result c.answer_of.new.server at_first c.requires.place c.answer_of.ensures.state
