use Rattle.std.proofs.Common.{◌<◌, ap, refl, subst, sym, ◌∙◌}
use Rattle.client_core.proofs.ResumeLaws.{Owes-fewer}
use Rattle.client_core.specs.Owes.{Owes}
use Rattle.client_core.specs.TakenViews.{frames_left}
use Rattle.client_core.proofs.taken.Client+Behind.skip.Goals as goal

pub returns-clause-owes : goal.returns-clause-owes
returns-clause-owes c =
    λ f keys o run k had.
    let is = c.state.view_is ∙ ap (λ client. client.state) c.self.view_is in
    Owes-fewer f keys o run k _ (subst (Owes f keys o run k) (sym is) had) c.args.count _ (subst (λ b. c.args.count < frames_left b) (sym is) c.requires) refl c.behind.ensures.left c.behind.ensures.next
