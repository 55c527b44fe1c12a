use Rattle.std.proofs.Common.{Some, None, ap, sym, ◌∙◌}
use Rattle.client_registry.specs.IdNumber.{id_number}
use Rattle.client_registry.specs.Registered.{facts}
use Rattle.client_core.proofs.StandsForLaws.{refused_new}
use Rattle.client_core.specs.StandsFor.{full_refusal}
use Rattle.client_core.specs.States.{ReadyState}
use Rattle.client_core.proofs.ready.Ready.add_refusal.Goals as goal

pub returns-in-Some : goal.returns-in-Some
returns-in-Some c =
    rw (← c.self.view_is) (
    sym (refused_new (facts c.self.inside.registry) c.self.inside.frames (id_number c.id.result) c.args.doc.now (Some c.in-Some.position) c.id.ensures (sym c.is_live.ensures ∙ c.if-is_live.false)
    (sym c.full_counter.ensures.position ∙ c.in-Some.is))
    )

pub returns-in-None : goal.returns-in-None
returns-in-None c =
    c.full.ensures
    ∙ ap (λ (s : ReadyState). full_refusal s.frames) (sym c.self.view_is)
    ∙ rw (← c.self.view_is) (
    sym (refused_new (facts c.self.inside.registry) c.self.inside.frames (id_number c.id.result) c.args.doc.now None c.id.ensures (sym c.is_live.ensures ∙ c.if-is_live.false)
    (sym c.full_counter.ensures.position ∙ c.in-None.is))
    )
