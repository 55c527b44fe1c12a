use Rattle.std.proofs.Common.{subst}
use Rattle.client_rebuild.specs.Recalls.{RecallsIn}
use Rattle.client_core.proofs.ResumeLaws.{restored-none, restored-some}
use Rattle.client_core.proofs.restored.Restored.of.Goals as goal

pub returns-in-None-clause-restored : goal.returns-in-None-clause-restored
returns-in-None-clause-restored c =
    λ mark payloads finished.
    let was = finished.taken in
    restored-none mark was.first payloads was.history was.opened (subst (RecallsIn was.history) c.in-None.is was.recalls)

pub returns-in-Some-clause-restored : goal.returns-in-Some-clause-restored
returns-in-Some-clause-restored c =
    λ mark payloads finished.
    let was = finished.taken in
    restored-some mark payloads c.args.rebuilt.marks.items c.in-Some.last c.of.result was.first was.history was.opened was.marked (subst (RecallsIn was.history) c.in-Some.is was.recalls) finished.under c.of.ensures.last
    (λ i. (c.of.ensures.marks i).items) c.of.ensures.shape c.of.ensures.pad
