use Rattle.std.proofs.Common.{ap, arith, drop, length, map, refl, ◌∙◌}
use Rattle.std.specs.Option.{option_or}
use Rattle.client_registry.specs.Acceptance.{bytes_refusal, list_refusal, parameter_refusal}
use Rattle.client_registry.specs.Run.{at_first}
use Rattle.client_registry.specs.Setup.{setup_with}
use Rattle.index_setup.proofs.BuildErrors.{first_none}
use Rattle.sse_frames.specs.Frames.{frame_bytes}
use Rattle.sse_frames.specs.SentParts.{numbered}
use Rattle.client_core.proofs.OwesLaws.{Owes-setup}
use Rattle.client_core.proofs.StandsForLaws.{index_past}
use Rattle.client_core.specs.PlanView.{setup_in}
use Rattle.client_core.specs.Setup.{index_frames}
use Rattle.client_core.proofs.fresh.Client+Fresh.commit.Goals as goal

-- the parameters of an index that can be sent were accepted
pub past_of-past-requires : goal.past_of-past-requires
past_of-past-requires c =
    let s = setup_in c.planned.inside.index c.planned.inside.docs in
    first_none (parameter_refusal s) (option_or (list_refusal s) (bytes_refusal s)) c.planned.invariant.sendable.accepted

-- the plan's documents were accepted, and its frames are as many as they need
pub returns-clause-stands : goal.returns-clause-stands
returns-clause-stands c =
    λ f keys.
    let can = c.planned.invariant.sendable in
    rw (← c.planned.view_is)
    (c.begun-ready.ensures.stands f keys at_first (setup_in c.planned.inside.index c.planned.inside.docs) refl (index_past c.past_of-past.result c.planned.inside.index c.planned.inside.docs c.past_of-past.ensures.b c.past_of-past.ensures.big c.past_of-past.ensures.pad) can.accepted (omega (arith, c.frame_count.ensures.count, can.frames)))

pub returns-clause-owed : goal.returns-clause-owed
returns-clause-owed c =
    (λ i. map frame_bytes (numbered (c.at.ensures.next i) (drop (c.at.ensures.place i) (index_frames (c.at.ensures.index i)))))
    ∙ ap (λ plan. plan.frames) c.planned.view_is

pub returns-clause-frames : goal.returns-clause-frames
returns-clause-frames c = ap length (returns-clause-owed c)

pub returns-clause-owes : goal.returns-clause-owes
returns-clause-owes c =
    λ f keys frames.
    Owes-setup f keys at_first (setup_with c.args.planned.docs.documents c.args.planned.b c.args.planned.big c.args.planned.pad) _ (returns-clause-stands c f keys)
    (returns-clause-owed c ∙ frames)
    c.at.ensures.next
