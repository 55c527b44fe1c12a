use Rattle.std.proofs.Common.{◌≡◌, [], ◌∷◌, Some, sym, ap, ◌∙◌, subst}
use Rattle.keyed_fn.specs.KeyedFn.{keyed_fn}
use Rattle.sse_frames.specs.FrameViews.{frame_view, reply_view}
use Rattle.sse_frames.specs.Replies.{Took}
use Rattle.server_core.specs.Refusal.{refusal}
use Rattle.server_core.specs.State.{at_first}
use Rattle.server_core.specs.Step.{step}
use Rattle.server_core.specs.Views.{answer_replies, HasRange}
use Rattle.server_core.specs.declared.answer.Answer.TheVariants as core
use Rattle.sse_server.specs.Taken.{taken_all}
use Rattle.sse_server.specs.declared.store_answer.StoreAnswer.TheVariants.{Answered}
use Rattle.world_server.proofs.Serving.{store_doubts}
use Rattle.world_server.proofs.Steps.{AreTaken-last, step_took, step_refused, refused_stays, refused_untaken, serves_same, answered_same}
use Rattle.world_server.proofs.update.update.Goals as goal

-- the frame was taken: its acknowledgement has its number
pub returns-in-Some-clause-ended : goal.returns-in-Some-clause-ended
returns-in-Some-clause-ended g c = λ frames s.
    let f = keyed_fn g.K.Keyed.prf g.K.Keyed.pad in
    let h = c.in-Answered.ensures in
    let q = c.in-Some.q in
    let frame = frame_view c.args.frame.now in
    let state = taken_all at_first frames in
    let took : Answered c.in-Answered.answer ≡ Answered (core.Took q) = ap (λ a. Answered a) c.in-Some.ensures.number in
    let added = h.added q took frames s.is in
    let is = AreTaken-last at_first frames frame added.are_taken in
    let replied = h.replies (λ e. let clash : Answered (core.Took q) ≡ Answered core.NoMemory = sym took ∙ e in cc) (λ e. cc) in
    let replies : Took q ∷ [] ≡ (step f state frame).1 =
    ap (λ a. answer_replies f c.handle-answer.new.self.state a c.handle-answer.new.page) (sym c.in-Some.ensures.number) ∙ replied ∙ ap (λ st. (step f st frame).1) s.is.state_is in
    (is, step_took f state frame q is replies, subst HasRange c.in-Some.ensures.number h.range, record { whole = (h.whole q took).1; is = added })

-- it was refused: neither the disk nor the store has changed
pub returns-in-Some-single-clause-ended : goal.returns-in-Some-single-clause-ended
returns-in-Some-single-clause-ended g c = λ frames s.
    let f = keyed_fn g.K.Keyed.prf g.K.Keyed.pad in
    let h = c.in-Answered.ensures in
    let old = c.args.store.now in
    let new = c.handle-answer.new.self in
    let frame = frame_view c.args.frame.now in
    let reply = reply_view c.in-Some-single.reply in
    let has : Answered c.in-Answered.answer ≡ Answered core.NoMemory → ⊥ = λ e. c.in-Some-single.ensures.memory (answered_same c.in-Answered.answer core.NoMemory e) in
    let replied = h.replies has (λ e. cc) in
    let replies : reply ∷ [] ≡ (step f old.state frame).1 = sym (c.in-Some-single.ensures.replies f new.state c.handle-answer.new.page) ∙ replied in
    let refused = step_refused f old.state frame reply c.requires.update c.in-Some-single.ensures.other replies in
    let same = h.untouched (refused_untaken old.state frame reply refused) in
    let can = c.in-Some-single.ensures.can in (
      subst (λ st. refusal st frame ≡ Some reply) s.is.state_is refused,
      can.0,
      can.1,
      can.2,
      serves_same frames old new c.args.disk.now c.handle-answer.new.disk same.0 same.1 (h.state has (λ e. cc) ∙ refused_stays f old.state frame reply refused) s,
    )

pub returns-in-Some-single-clause-quiet : goal.returns-in-Some-single-clause-quiet
returns-in-Some-single-clause-quiet g c = λ refused.
    let f = keyed_fn g.K.Keyed.prf g.K.Keyed.pad in
    let h = c.in-Answered.ensures in
    let old = c.args.store.now in
    let new = c.handle-answer.new.self in
    let frame = frame_view c.args.frame.now in
    let reply = reply_view c.in-Some-single.reply in
    let has : Answered c.in-Answered.answer ≡ Answered core.NoMemory → ⊥ = λ e. c.in-Some-single.ensures.memory (answered_same c.in-Answered.answer core.NoMemory e) in
    let replies : reply ∷ [] ≡ (step f old.state frame).1 = sym (c.in-Some-single.ensures.replies f new.state c.handle-answer.new.page) ∙ h.replies has (λ e. cc) in
    (h.untouched (refused_untaken old.state frame reply (step_refused f old.state frame reply c.requires.update c.in-Some-single.ensures.other replies))).0

pub returns-in_default-clause-disk : goal.returns-in_default-clause-disk
returns-in_default-clause-disk g c = λ frames s. store_doubts c.args.disk.now c.handle-answer.new.disk frames (frame_view c.args.frame.now) (c.handle-answer.ensures.any_moment frames s.whole s.is)

pub returns-in-Some-clause-disk : goal.returns-in-Some-clause-disk
returns-in-Some-clause-disk g c = λ frames s. store_doubts c.args.disk.now c.handle-answer.new.disk frames (frame_view c.args.frame.now) (c.handle-answer.ensures.any_moment frames s.whole s.is)

pub returns-in-Some-single-clause-disk : goal.returns-in-Some-single-clause-disk
returns-in-Some-single-clause-disk g c = λ frames s. store_doubts c.args.disk.now c.handle-answer.new.disk frames (frame_view c.args.frame.now) (c.handle-answer.ensures.any_moment frames s.whole s.is)

pub returns-in-Some-broken-clause-disk : goal.returns-in-Some-broken-clause-disk
returns-in-Some-broken-clause-disk g c = λ frames s. store_doubts c.args.disk.now c.handle-answer.new.disk frames (frame_view c.args.frame.now) (c.handle-answer.ensures.any_moment frames s.whole s.is)
