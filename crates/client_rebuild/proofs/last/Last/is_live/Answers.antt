use Rattle.std.proofs.Common.{is_some, sym, ap, ◌∙◌}
use Rattle.client_registry.proofs.FactsLaws.{is_some-words_with_id}
use Rattle.client_registry.specs.IdNumber.{id_number}
use Rattle.client_rebuild.specs.Recalls.{facts_of_last}
use Rattle.client_rebuild.specs.declared.last.Last.{Last}
use Rattle.client_rebuild.proofs.last.Last.is_live.Goals as goal

pub returns-in-Setup : goal.returns-in-Setup
returns-in-Setup c =
    c.is_live.ensures
    ∙ sym (is_some-words_with_id c.in-Setup.setup.docs.documents (id_number c.args.id))
    ∙ ap (λ (l : Last). is_some ((facts_of_last l).live (id_number c.args.id))) (sym c.in-Setup.is)
