use Rattle.std.proofs.Common.{ap, arith, length, refl, subst, sym, ◌∙◌}
use Rattle.std.proofs.lemmas.List.{length-drop}
use Rattle.client_core.proofs.OwesLaws.{Owes-last, Owes-one_less}
use Rattle.client_core.specs.Owed.{owed_frames}
use Rattle.client_core.specs.Owes.{Owes}
use Rattle.client_core.specs.States.{BehindState}
use Rattle.client_core.proofs.taken.Client+Behind.take_reply.Goals as goal

pub returns-in-Some-clause-less : goal.returns-in-Some-clause-less
returns-in-Some-clause-less c =
    let old = owed_frames c.state.inside.owed in
    let is = c.state.view_is ∙ ap (λ client. client.state) c.self.view_is in
    omega (arith, c.in-Some.ensures.some, ap length c.in-Some.ensures.left, length-drop 1 old, ap (λ (b : BehindState). length b.frames) is)

pub returns-in-Some-clause-owes : goal.returns-in-Some-clause-owes
returns-in-Some-clause-owes c =
    λ f keys o run k had.
    let is = c.state.view_is ∙ ap (λ client. client.state) c.self.view_is in
    Owes-one_less f keys o run k _ (subst (Owes f keys o run k) (sym is) had) _ c.in-Some.ensures.some refl c.in-Some.ensures.left c.in-Some.ensures.next

pub returns-in-None-clause-owes : goal.returns-in-None-clause-owes
returns-in-None-clause-owes c =
    λ f keys o run k had.
    let is = c.state.view_is ∙ ap (λ client. client.state) c.self.view_is in
    let now = subst (Owes f keys o run k) (sym is) had in
    (Owes-last f keys o run k _ now (c.behind_first.ensures.last c.in-None.is), now.stands)
