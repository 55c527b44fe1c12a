use Rattle.std.proofs.Common.{refl, subst, ◌∙◌}
use Rattle.std.specs.Prelude.{Ok}
use Rattle.client_core.specs.TakenViews.{to_send}
use Rattle.script_run_texts.specs.Stops.{peer_cause}
use Rattle.sse_client.specs.Calls.{shows}
use Rattle.sse_client.specs.Steps.{LeavesClient, StepsOver}
use Rattle.sse_client.specs.declared.frame_exchange.Step.{Step}
use Rattle.sse_client.proofs.TranscriptsJoined.{Sends-err}
use Rattle.sse_client.proofs.FramesSent.{IsSending-begun, IsSending-joined, HasExchanged-behind, HasCut-behind}
use Rattle.sse_client.proofs.FramesUnderWay.{frames_of_next}
use Rattle.sse_client.proofs.frame_exchange.catch_up.Goals as goal

pub frames-init : goal.frames-init
frames-init g c = record {
  began = refl;
  steady = refl;
  grammar = c.requires.frames;
  key = refl;
  ready = refl;
  sending = λ frames owed. IsSending-begun (g.L.Link.transcript c.args.link.now) c.args.client.state frames owed;
}

pub frames-preserved : goal.frames-preserved
frames-preserved g c =
    let old = g.L.Link.transcript c.args.link.now in
    let now = g.L.Link.transcript c.frames.link in
    let new = g.L.Link.transcript c.send_next.new.link in
    let next = c.in-Behind.next in
    let client = subst (λ (step : Step). LeavesClient c.frames.client step) c.in-Behind.is c.in_ok-next.ensures.client in
    record {
      began = c.in_ok-next.ensures.keeps.began ∙ c.frames.invariant.began;
      steady = c.in_ok-next.ensures.keeps.steady ∙ c.frames.invariant.steady;
      grammar = frames_of_next (to_send c.frames.client.state) (to_send next.state) client.2 c.frames.invariant.grammar;
      key = client.0 ∙ c.frames.invariant.key;
      ready = client.1 ∙ c.frames.invariant.ready;
      sending = λ frames owed.
          let way = c.frames.invariant.sending frames owed in
          IsSending-joined old now new c.frames.client.state next.state frames way
          (subst (λ (step : Step). StepsOver now new way.left (Ok step)) c.in-Behind.is (c.in_ok-next.ensures.steps way.left (way.to_come, way.numbered)));
    }

pub frames-smaller : goal.frames-smaller
frames-smaller g c = (subst (λ (step : Step). LeavesClient c.frames.client step) c.in-Behind.is c.in_ok-next.ensures.client).3

pub returns-in_err-next-clause-sends : goal.returns-in_err-next-clause-sends
returns-in_err-next-clause-sends g c frames owed numbered =
    let old = c.args.link.now in
    let now = g.L.Link.transcript c.frames.link in
    let new = c.send_next.new.link in
    let stop = c.in_err-next.field-0.0 in
    let way = c.frames.invariant.sending frames (owed, numbered) in
    Sends-err (shows (g.L.Link.transcript old) (g.L.Link.faults old) (g.L.Link.began old)) (shows (g.L.Link.transcript new) (g.L.Link.faults new) (g.L.Link.began new)) frames c.from_residual.result stop c.from_residual.ensures.1
    (HasCut-behind (g.L.Link.transcript old) now (g.L.Link.transcript new) c.frames.client.state frames (peer_cause stop) way (c.in_err-next.ensures.steps way.left (way.to_come, way.numbered)))

pub returns-in-Ready-clause-sends : goal.returns-in-Ready-clause-sends
returns-in-Ready-clause-sends g c frames owed numbered =
    let old = g.L.Link.transcript c.args.link.now in
    let now = g.L.Link.transcript c.frames.link in
    let new = g.L.Link.transcript c.send_next.new.link in
    let way = c.frames.invariant.sending frames (owed, numbered) in
    HasExchanged-behind old now new c.frames.client.state frames way
    (subst (λ (step : Step). StepsOver now new way.left (Ok step)) c.in-Ready.is (c.in_ok-next.ensures.steps way.left (way.to_come, way.numbered)))
