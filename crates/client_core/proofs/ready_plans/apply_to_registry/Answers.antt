use Rattle.std.proofs.Common.{◌∷◌, ◌++◌, [], sym, subst}
use Rattle.std.specs.Prelude.{OnOk}
use Rattle.client_registry.specs.Command.{Delete as deletes}
use Rattle.client_registry.specs.IdNumber.{id_number}
use Rattle.client_registry.specs.Registered.{Represents}
use Rattle.client_core.specs.Updates.{command_of_update}
use Rattle.client_core.proofs.ready_plans.apply_to_registry.Goals as goal

pub returns-in-Add-clause-history : goal.returns-in-Add-clause-history
returns-in-Add-clause-history c =
    λ s past is.
    subst (λ u. Represents c.add_numbered.new.self s (past ++ command_of_update u ∷ [])) (sym c.in-Add.is)
    (c.add_numbered.ensures.history s past is)

pub returns-in-Delete-clause-history : goal.returns-in-Delete-clause-history
returns-in-Delete-clause-history c =
    λ s past is.
    subst (λ u. Represents c.delete.new.self s (past ++ command_of_update u ∷ [])) (sym c.in-Delete.is)
    (subst (λ r. OnOk r (Represents c.delete.new.self s (past ++ deletes (id_number c.in-Delete.id) ∷ []))) c.unwrap.ensures (c.delete.ensures.history s past is))
