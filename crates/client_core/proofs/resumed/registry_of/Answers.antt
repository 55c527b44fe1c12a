use Rattle.std.proofs.Common.{ap, sym, ◌∙◌}
use Rattle.client_rebuild.specs.Recalls.{facts_of_last, setup_in}
use Rattle.client_core.proofs.resumed.registry_of.Goals as goal

pub returns-in-Setup-clause-facts : goal.returns-in-Setup-clause-facts
returns-in-Setup-clause-facts c =
    let s = setup_in c.in-Setup.setup in
    c.from_docs.ensures.setup s.shape s.pad ∙ ap facts_of_last (sym c.in-Setup.is)
