use Rattle.std.proofs.Common.{inl, inr, ap, ◌∙◌}
use Rattle.client_rebuild.specs.Recalls.{frames_of_last}
use Rattle.client_core.proofs.ResumeLaws.{elsewhere, lacking}
use Rattle.client_core.specs.Resumes.{first_recorded}
use Rattle.client_core.proofs.resumed.Client+Recorded.lacks.Goals as goal

pub returns-then-next-low-clause-lacks : goal.returns-then-next-low-clause-lacks
returns-then-next-low-clause-lacks c =
    λ f key o run knows.
    let is = ap (λ s. s.last) (c.state.view_is ∙ ap (λ client. client.state) c.self.view_is) in
    elsewhere f key o run c.args.self.now.state knows c.first_frame-low.result c.frames-high.result c.args.next (c.first_frame-low.ensures ∙ ap first_recorded is) (c.frames-high.ensures ∙ ap frames_of_last is) (elim c.then-next-low.either [
      | inl below ↦ inl below
      | inr above ↦ inr above.1
    ])

pub returns-clause-lacks : goal.returns-clause-lacks
returns-clause-lacks c =
    λ f key o run knows.
    let is = ap (λ s. s.last) (c.state.view_is ∙ ap (λ client. client.state) c.self.view_is) in
    lacking f key o run c.args.self.now.state knows c.first_frame-low.result c.frames-high.result c.args.next (c.first_frame-low.ensures ∙ ap first_recorded is) (c.frames-high.ensures ∙ ap frames_of_last is) c.if-next-low.false c.if-high-next.false
