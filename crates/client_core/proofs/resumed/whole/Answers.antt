use Rattle.std.proofs.Common.{ap, ◌∙◌}
use Rattle.client_rebuild.specs.Recalls.{facts_of_last, frames_of_last}
use Rattle.client_registry.specs.Registered.{facts}
use Rattle.client_core.proofs.ResumeLaws.{stands_whole}
use Rattle.client_core.specs.States.{RecordedState}
use Rattle.client_core.proofs.resumed.whole.Goals as goal

pub returns-clause-stands : goal.returns-clause-stands
returns-clause-stands c =
    λ f keys o run knows.
    stands_whole f keys o run c.args.state _ knows (ap facts c.of_registry.ensures.registry ∙ c.in_ok-registry.ensures.facts ∙ ap (λ (s : RecordedState). facts_of_last s.last) c.state.view_is)
    (c.of_registry.ensures.frames ∙ c.frames-frames.ensures ∙ ap (λ (s : RecordedState). frames_of_last s.last) c.state.view_is) (c.of_registry.ensures.past ∙ ap (λ (s : RecordedState). s.past) c.state.view_is) (c.of_registry.ensures.keeps f (keys o.epoch))
