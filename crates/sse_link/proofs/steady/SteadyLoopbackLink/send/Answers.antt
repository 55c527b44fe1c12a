use Rattle.std.proofs.lemmas.Grind.{common_steps}
use Rattle.std.proofs.Common.{◌≡◌, [], ◌∷◌, ◌++◌, subst, sym, ◌∙◌, arith}
use Rattle.keyed_fn.specs.KeyedFn.{keyed_fn}
use Rattle.def_link_events.specs.Events.{Sent}
use Rattle.sse_link.specs.Marks.{mark_of}
use Rattle.sse_link.specs.Recorded.{recorded}
use Rattle.sse_link.specs.Steady.{IsTelling}
use Rattle.sse_link.proofs.Kept.{steady_sent}
use Rattle.sse_link.proofs.steady.SteadyLoopbackLink.send.Goals as goal

-- the frame was answered as its mark says, and its replies wait
pub invariant_of-self-2 : goal.invariant_of-self-2
invariant_of-self-2 g c =
    let f = keyed_fn g.K.Keyed.prf g.K.Keyed.pad in
    let inside = c.self.inside in
    let answer = c.answer_bytes-self-inside in
    let kept : recorded c.sent.new.self ≡ recorded inside.passed ++ Sent c.args.frame.now (mark_of answer.result) ∷ [] =
    c.sent.ensures ∙ (λ i. c.make_room.ensures.same i ++ Sent (c.in_ok-bytes.ensures.copy i) (c.mark.ensures i) ∷ []) in
    record {
      telling = subst (λ events. IsTelling f events inside.began.value.state answer.new.server.state answer.result answer.new.page) (sym kept)
          (steady_sent f (recorded inside.passed) inside.began.value.state inside.server.state answer.new.server.state inside.due answer.result inside.page answer.new.page
          c.args.frame.now c.self.invariant.telling c.requires.frame answer.ensures.due (answer.ensures.frame c.requires.frame));
      no_fault = answer.ensures.no_fault;
    }

pub returns-clause-waits : goal.returns-clause-waits
returns-clause-waits g c = grind (arith, common_steps)
