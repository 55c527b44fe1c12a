use Rattle.std.proofs.Common.{inl, inr, refl, sym, ap, ◌∙◌, subst}
use Rattle.keyed_fn.specs.KeyedFn.{keyed_fn}
use Rattle.sse_frames.specs.FrameViews.{frame_view, reply_view}
use Rattle.sse_frames.specs.Frames.{update_number}
use Rattle.server_core.specs.State.{at_first}
use Rattle.server_core.specs.Step.{step}
use Rattle.sse_server.proofs.AnswerLaws.{not_taken}
use Rattle.sse_server.specs.Taken.{taken_all}
use Rattle.world_model.specs.Events.{in_doubt, settled}
use Rattle.world_server.proofs.Handling.{ended_as, doubt_as, refused_replies, none_by}
use Rattle.world_server.proofs.Serving.{left_frames}
use Rattle.world_server.proofs.Steps.{refused_untaken}
use Rattle.world_server.specs.Updates.{IsEnded}
use Rattle.world_server.specs.declared.update.Ended.TheVariants as ended
use Rattle.world_server.proofs.handled.handle.Goals as goal

-- a frame that is no update
pub returns-in-Some-question-clause-handled : goal.returns-in-Some-question-clause-handled
returns-in-Some-question-clause-handled g c = λ frames s sent.
    let f = keyed_fn g.K.Keyed.prf g.K.Keyed.pad in
    let frame = frame_view c.in-Some.frame in
    let same = c.in-Some.ensures.frame sent in
    let none = none_by c.update_number.result (update_number frame) c.is_none.result c.update_number.ensures c.is_none.ensures c.if-is_none.true in (
      not_taken (taken_all at_first frames) sent.frame (ap update_number (sym same) ∙ none),
      c.in-Some-question.ensures.replies ∙ ap (λ x. (step f c.args.store.now.state x).1) same ∙ ap (λ x. (step f x sent.frame).1) s.is.state_is,
      c.question.ensures.stays frames s,
    )

-- an update that was taken
pub returns-in-No-clause-handled : goal.returns-in-No-clause-handled
returns-in-No-clause-handled g c = λ frames s sent.
    let met = c.stop_if_met.ensures.no c.in-No.is in
    let e = ended_as frames (frame_view c.in-Some.frame) sent.frame c.update-calls.result.0 (ended.Took c.in-Took.q) c.update-calls.new.store c.update-calls.new.disk c.stop_if_met.new.disk (c.in-Some.ensures.frame sent) c.in-Took.is met.1 (c.update-calls.ensures.ended frames s) in
    (met.0, e.0, e.1, e.3)

pub returns-in-No-clause-can : goal.returns-in-No-clause-can
returns-in-No-clause-can g c =
    let frames = c.requires.serves.0 in
    (subst (λ x. IsEnded frames (frame_view c.in-Some.frame) x c.update-calls.new.store c.update-calls.new.disk) c.in-Took.is (c.update-calls.ensures.ended frames c.requires.serves.1)).2

pub returns-in-Yes-clause-handled : goal.returns-in-Yes-clause-handled
returns-in-Yes-clause-handled g c = λ frames s sent.
    let met = c.stop_if_met.ensures.yes c.in-Yes.is in
    let same = c.in-Some.ensures.frame sent in
    let e = ended_as frames (frame_view c.in-Some.frame) sent.frame c.update-calls.result.0 (ended.Took c.in-Took.q) c.update-calls.new.store c.update-calls.new.disk c.update-calls.new.disk same c.in-Took.is refl (c.update-calls.ensures.ended frames s) in
    let disk = doubt_as frames (frame_view c.in-Some.frame) sent.frame c.update-calls.new.disk c.update-calls.new.disk same refl (c.update-calls.ensures.disk frames s) in
    let left = left_frames (in_doubt (settled frames) sent.frame) c.update-calls.new.disk c.stop_if_met.new.disk met.1 disk in
    (met.0, e.0, left.0, left.1)

pub returns-in-NoMemory-stop_if_met-clause-handled : goal.returns-in-NoMemory-stop_if_met-clause-handled
returns-in-NoMemory-stop_if_met-clause-handled g c = λ frames s sent.
    let met = c.stop_if_met.ensures.no_memory c.in-NoMemory-stop_if_met.is in
    let same = c.in-Some.ensures.frame sent in
    let e = ended_as frames (frame_view c.in-Some.frame) sent.frame c.update-calls.result.0 (ended.Took c.in-Took.q) c.update-calls.new.store c.update-calls.new.disk c.update-calls.new.disk same c.in-Took.is refl (c.update-calls.ensures.ended frames s) in
    (inr met.0, e.0, doubt_as frames (frame_view c.in-Some.frame) sent.frame c.update-calls.new.disk c.stop_if_met.new.disk same met.1 (c.update-calls.ensures.disk frames s))

-- one that was refused
pub returns-in-Refused-clause-handled : goal.returns-in-Refused-clause-handled
returns-in-Refused-clause-handled g c = λ frames s sent.
    let f = keyed_fn g.K.Keyed.prf g.K.Keyed.pad in
    let state = taken_all at_first frames in
    let reply = reply_view c.in-Refused.reply in
    let e = ended_as frames (frame_view c.in-Some.frame) sent.frame c.update-calls.result.0 (ended.Refused c.in-Refused.reply) c.update-calls.new.store c.update-calls.new.disk c.update-calls.new.disk (c.in-Some.ensures.frame sent) c.in-Refused.is refl (c.update-calls.ensures.ended frames s) in
    (refused_untaken state sent.frame reply e.0, refused_replies f state sent.frame reply e.0, e.4)

-- one at which the disk failed
pub returns-in-No-stop_if_met-clause-handled : goal.returns-in-No-stop_if_met-clause-handled
returns-in-No-stop_if_met-clause-handled g c = λ frames s sent.
    let met = c.stop_if_met-in-Failed.ensures.no c.in-No-stop_if_met.is in
    let same = c.in-Some.ensures.frame sent in
    let e = ended_as frames (frame_view c.in-Some.frame) sent.frame c.update-calls.result.0 ended.Failed c.update-calls.new.store c.update-calls.new.disk c.update-calls.new.disk same c.in-Failed.is refl (c.update-calls.ensures.ended frames s) in
    (inl e.1, e.0, doubt_as frames (frame_view c.in-Some.frame) sent.frame c.update-calls.new.disk c.stop_if_met-in-Failed.new.disk same met.1 (c.update-calls.ensures.disk frames s))

pub returns-in-Yes-stop_if_met-clause-handled : goal.returns-in-Yes-stop_if_met-clause-handled
returns-in-Yes-stop_if_met-clause-handled g c = λ frames s sent.
    let met = c.stop_if_met-in-Failed.ensures.yes c.in-Yes-stop_if_met.is in
    let same = c.in-Some.ensures.frame sent in
    let e = ended_as frames (frame_view c.in-Some.frame) sent.frame c.update-calls.result.0 ended.Failed c.update-calls.new.store c.update-calls.new.disk c.update-calls.new.disk same c.in-Failed.is refl (c.update-calls.ensures.ended frames s) in
    let disk = doubt_as frames (frame_view c.in-Some.frame) sent.frame c.update-calls.new.disk c.update-calls.new.disk same refl (c.update-calls.ensures.disk frames s) in
    let left = left_frames (in_doubt (settled frames) sent.frame) c.update-calls.new.disk c.stop_if_met-in-Failed.new.disk met.1 disk in
    (met.0, e.0, left.0, left.1)

pub returns-in-NoMemory-stop_if_met-2-clause-handled : goal.returns-in-NoMemory-stop_if_met-2-clause-handled
returns-in-NoMemory-stop_if_met-2-clause-handled g c = λ frames s sent.
    let met = c.stop_if_met-in-Failed.ensures.no_memory c.in-NoMemory-stop_if_met-2.is in
    let same = c.in-Some.ensures.frame sent in
    let e = ended_as frames (frame_view c.in-Some.frame) sent.frame c.update-calls.result.0 ended.Failed c.update-calls.new.store c.update-calls.new.disk c.update-calls.new.disk same c.in-Failed.is refl (c.update-calls.ensures.ended frames s) in
    (inl e.1, e.0, doubt_as frames (frame_view c.in-Some.frame) sent.frame c.update-calls.new.disk c.stop_if_met-in-Failed.new.disk same met.1 (c.update-calls.ensures.disk frames s))
