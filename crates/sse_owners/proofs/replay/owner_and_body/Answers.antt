use Rattle.sse_owners.proofs.OwnedOnce.{joined}
use Rattle.sse_owners.proofs.replay.owner_and_body.Goals as goal

pub returns-in-Some-clause-some : goal.returns-in-Some-clause-some
returns-in-Some-clause-some c =
    let parts = c.in-Some.ensures.cases in
    joined c.args.payload.now _ _ c.number_of.result c.number_of.ensures.number parts.0 parts.1
