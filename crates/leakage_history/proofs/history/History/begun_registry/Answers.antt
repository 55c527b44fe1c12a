use Rattle.std.proofs.Common.{[], ap, ◌∙◌}
use Rattle.client_registry.specs.Facts.{facts_of}
use Rattle.client_registry.specs.Setup.{setup_with}
use Rattle.leakage_history.proofs.history.History.begun_registry.Goals as goal

pub returns-clause-setup : goal.returns-clause-setup
returns-clause-setup c =
    let h = c.self.inside in
    c.from_docs.ensures.setup (record { b = h.b; big = h.big }) h.pad
    ∙ ap (λ docs. facts_of (setup_with docs h.b h.big h.pad) []) c.in_ok-copy_docs.ensures.documents
    ∙ ap (λ h. facts_of h.setup []) c.self.view_is
