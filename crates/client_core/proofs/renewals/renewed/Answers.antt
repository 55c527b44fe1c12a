use Rattle.std.proofs.Common.{ap, arith, drop, map, refl, sym, ◌∙◌}
use Rattle.client_registry.specs.Acceptance.{bytes_refusal, list_refusal, parameter_refusal}
use Rattle.client_renewal.specs.declared.past.Past.{Past}
use Rattle.index_setup.proofs.BuildErrors.{first_none}
use Rattle.sse_frames.specs.Frames.{frame_bytes}
use Rattle.sse_frames.specs.SentParts.{numbered}
use Rattle.std.specs.Option.{option_or}
use Rattle.client_core.proofs.OwesLaws.{Owes-setup}
use Rattle.client_core.proofs.StandsForLaws.{index_past}
use Rattle.client_core.specs.PlanView.{setup_in}
use Rattle.client_core.specs.Renewals.{planned_setup}
use Rattle.client_core.specs.Setup.{index_frames}
use Rattle.client_core.proofs.renewals.renewed.Goals as goal

-- the parameters of an index that can be sent were accepted
pub past_of-past-requires : goal.past_of-past-requires
past_of-past-requires c =
    let s = setup_in c.planned.inside.index c.planned.inside.docs in
    first_none (parameter_refusal s) (option_or (list_refusal s) (bytes_refusal s)) c.planned.invariant.sendable.accepted

pub returns-clause-renewed : goal.returns-clause-renewed
returns-clause-renewed c = record {
  hash_keys = c.begun-ready.ensures.hash_keys ∙ ap (λ plan. plan.docs.keys) c.planned.view_is;
  marks = ap (λ (p : Past). p.marks.items) c.begun-ready.ensures.past ∙ (λ i. (c.past_of-past.ensures.marks i).items) ∙ ap (λ plan. plan.marks) c.planned.view_is;
  b = ap (λ (p : Past). p.b) c.begun-ready.ensures.past ∙ c.past_of-past.ensures.b ∙ ap (λ plan. plan.b) c.planned.view_is;
  big = ap (λ (p : Past). p.big) c.begun-ready.ensures.past ∙ c.past_of-past.ensures.big ∙ ap (λ plan. plan.big) c.planned.view_is;
  pad = ap (λ (p : Past). p.pad) c.begun-ready.ensures.past ∙ c.past_of-past.ensures.pad ∙ ap (λ plan. plan.pad) c.planned.view_is;
  owed =
      (λ i. map frame_bytes (numbered (c.at.ensures.next i) (drop (c.at.ensures.place i) (index_frames (c.at.ensures.index i)))))
      ∙ ap (λ plan. plan.frames) c.planned.view_is;
  first = c.at.ensures.next ∙ ap (λ plan. plan.number) c.planned.view_is;
}

pub returns-clause-stands : goal.returns-clause-stands
returns-clause-stands c =
    λ f keys o at.
    let can = c.planned.invariant.sendable in
    rw (← c.planned.view_is)
    (c.begun-ready.ensures.stands f keys o (setup_in c.planned.inside.index c.planned.inside.docs) refl (index_past c.past_of-past.result c.planned.inside.index c.planned.inside.docs c.past_of-past.ensures.b c.past_of-past.ensures.big c.past_of-past.ensures.pad) can.accepted
    (omega (arith, c.frame_count.ensures.count, can.frames, at, ap (λ plan. plan.number) c.planned.view_is)))

pub returns-clause-owes : goal.returns-clause-owes
returns-clause-owes c =
    λ f keys o at frames.
    Owes-setup f keys o (planned_setup c.args.planned) _ (returns-clause-stands c f keys o at)
    ((λ i. map frame_bytes (numbered (c.at.ensures.next i) (drop (c.at.ensures.place i) (index_frames (c.at.ensures.index i)))))
    ∙ ap (λ plan. plan.frames) c.planned.view_is
    ∙ frames)
    (c.at.ensures.next ∙ ap (λ plan. plan.number) c.planned.view_is ∙ sym at)
