use Rattle.std.proofs.Common.{◌∷◌, [], ap, refl, subst, sym, ◌∙◌}
use Rattle.client_core.proofs.OwesLaws.{Owes-update}
use Rattle.client_core.proofs.StandsForLaws.{StandsFor-committed}
use Rattle.client_core.specs.StandsFor.{CanCommit, StandsFor}
use Rattle.client_core.proofs.ready_plans.Client+Ready.commit.Goals as goal

pub returns-clause-stands : goal.returns-clause-stands
returns-clause-stands c =
    λ f keys o run s.
    let plan = c.planned.inside in
    let is = c.state.view_is ∙ ap (λ client. client.state) c.self.view_is in
    let can = subst (CanCommit _) (sym c.planned.view_is) (subst (λ state. CanCommit state c.args.planned) (sym is) c.requires) in
    rw (← c.planned.view_is)
    (StandsFor-committed f keys o run plan.update plan.words.items _ _ can.number can.sized can.fits
    (c.apply_to_registry.ensures.history run.setup run.later) c.apply_to_registry.ensures.words refl refl refl (subst (StandsFor f keys o run) (sym is) s))

pub returns-clause-owes : goal.returns-clause-owes
returns-clause-owes c =
    λ f keys o run s frame.
    let is = c.planned.view_is in
    Owes-update f keys o run c.args.planned.update _ (returns-clause-stands c f keys o run s) (ap (λ plan. plan.frame ∷ []) is ∙ frame)
    (ap (λ plan. plan.number) is ∙ c.requires.next ∙ s.number)
