use Rattle.std.proofs.Common.{None, Some}
use Rattle.client_registry.specs.Registered.{facts}
use Rattle.client_renewal.proofs.LiveFaults.{refused_alike}
use Rattle.client_renewal.proofs.live_again.sized_docs.Goals as goal

pub returns-in-Some-clause-fault : goal.returns-in-Some-clause-fault
returns-in-Some-clause-fault c =
    λ docs are other.
    refused_alike (facts c.args.registry.now).live docs c.in-Ok.docs.documents are c.in-Ok.ensures.live (Some c.in-Some.fault) c.args.frames c.args.past.now.b c.args.past.now.big c.args.past.now.pad
    (c.in-Ok.ensures.fault docs are (λ e. absurd (cc))) c.in-Some.ensures.refusal

pub returns-in-None-clause-fault : goal.returns-in-None-clause-fault
returns-in-None-clause-fault c =
    λ docs are other.
    refused_alike (facts c.args.registry.now).live docs c.in-Ok.docs.documents are c.in-Ok.ensures.live None c.args.frames c.args.past.now.b c.args.past.now.big c.args.past.now.pad
    (c.in-Ok.ensures.fault docs are (λ e. absurd (cc))) c.in-None.ensures.refusal
