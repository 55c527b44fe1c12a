use Rattle.std.proofs.Common.{sym, subst}
use Rattle.world_disks.specs.Disks.{IsDiskOf}
use Rattle.world_client.proofs.starts.start_client.Goals as goal

pub returns-in-Yes-clause-started : goal.returns-in-Yes-clause-started
returns-in-Yes-clause-started g c =
    let one = c.stop_if_met.ensures.yes c.in-Yes.is in
    λ first histories model of is. (one.0, one.1 model (c.restart-started.ensures.disk model is))

pub returns-in-NoMemory-clause-started : goal.returns-in-NoMemory-clause-started
returns-in-NoMemory-clause-started g c =
    let one = c.stop_if_met.ensures.no_memory c.in-NoMemory.is in
    λ first histories model of is. subst (IsDiskOf model) (sym one.1) (c.restart-started.ensures.disk model is)
