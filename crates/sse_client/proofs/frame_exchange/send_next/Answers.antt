use Rattle.std.proofs.Common.{sym, subst, ◌∙◌, ap, Some}
use Rattle.client_core.specs.TakenViews.{first_number, to_send}
use Rattle.script_run_texts.specs.Stops.{peer_cause}
use Rattle.sse_client.specs.Exchanges.{HasCut}
use Rattle.sse_client.specs.Progress.{IsAnswered}
use Rattle.sse_client.proofs.CountsAtStop.{PeerCause-fault, store_told, took_no_store}
use Rattle.sse_client.proofs.TranscriptsJoined.{IsAnswered-same}
use Rattle.sse_client.proofs.FramesSent.{IsSending-begun, IsSending-next, IsSending-last, HasCut-unanswered, HasCut-answered, StepsOver-err}
use Rattle.sse_client.proofs.FramesUnderWay.{first_frame}
use Rattle.sse_client.proofs.frame_exchange.send_next.Goals as goal

pub exchange-requires : goal.exchange-requires
exchange-requires g c = record { frame = first_frame (to_send c.args.client.state) c.frame.result.now c.frame.ensures c.requires.frames }

pub returns-in_err-exchange-clause-steps : goal.returns-in_err-exchange-clause-steps
returns-in_err-exchange-clause-steps g c frames owed =
    let old = g.L.Link.transcript c.args.link.now in
    let new = g.L.Link.transcript c.exchange.new.link in
    let stop = c.in_err-exchange.field-0.0 in
    StepsOver-err old new frames c.from_residual.result stop c.from_residual.ensures.1
    (HasCut-unanswered old old new c.args.client.state frames c.frame.result.now (peer_cause stop) (IsSending-begun old c.args.client.state frames owed) c.frame.ensures c.in_err-exchange.ensures.unanswered)

pub returns-in-Behind-clause-steps : goal.returns-in-Behind-clause-steps
returns-in-Behind-clause-steps g c frames owed =
    let old = g.L.Link.transcript c.args.link.now in
    let new = g.L.Link.transcript c.exchange.new.link in
    let reply = c.reply-reply.result.now in
    let answered : IsAnswered old new c.frame.result.now reply = IsAnswered-same old new c.frame.result.now c.exchange.new.buffer reply c.reply-reply.ensures c.in_ok-exchange.ensures.answered in
    IsSending-next old old new c.args.client.state c.in-Behind.next.state frames c.frame.result.now reply (IsSending-begun old c.args.client.state frames owed) c.frame.ensures answered
    c.in-Behind.ensures.after.0 c.in-Behind.ensures.after.4 c.in-Behind.ensures.after.3

pub returns-in-Ready-clause-steps : goal.returns-in-Ready-clause-steps
returns-in-Ready-clause-steps g c frames owed =
    let old = g.L.Link.transcript c.args.link.now in
    let new = g.L.Link.transcript c.exchange.new.link in
    let reply = c.reply-reply.result.now in
    let answered : IsAnswered old new c.frame.result.now reply = IsAnswered-same old new c.frame.result.now c.exchange.new.buffer reply c.reply-reply.ensures c.in_ok-exchange.ensures.answered in
    IsSending-last old old new c.args.client.state frames c.frame.result.now reply (IsSending-begun old c.args.client.state frames owed) c.frame.ensures answered c.in-Ready.ensures.after.0 c.in-Ready.ensures.after.3

pub returns-in-Stopped-clause-steps : goal.returns-in-Stopped-clause-steps
returns-in-Stopped-clause-steps g c frames owed =
    let old = g.L.Link.transcript c.args.link.now in
    let new = g.L.Link.transcript c.exchange.new.link in
    let reply = c.reply-reply.result.now in
    let answered : IsAnswered old new c.frame.result.now reply = IsAnswered-same old new c.frame.result.now c.exchange.new.buffer reply c.reply-reply.ensures c.in_ok-exchange.ensures.answered in
    subst (HasCut old new frames) (sym c.stop_of_reply.ensures.cause)
    (HasCut-answered old old new c.args.client.state frames c.frame.result.now reply c.in-Stopped.fault (IsSending-begun old c.args.client.state frames owed) c.frame.ensures answered
    c.in-Stopped.ensures.after.0 c.in-Stopped.ensures.after.2)

pub returns-in-Behind-clause-keeps : goal.returns-in-Behind-clause-keeps
returns-in-Behind-clause-keeps g c = record {
  began = c.exchange.ensures.began;
  steady = c.in_ok-exchange.ensures.steady (λ e. took_no_store (first_number c.args.client.state) c.reply-reply.result.now c.in-Behind.ensures.after.0 (c.reply-reply.ensures ∙ e));
  cause = tt;
}

pub returns-in-Ready-clause-keeps : goal.returns-in-Ready-clause-keeps
returns-in-Ready-clause-keeps g c = record {
  began = c.exchange.ensures.began;
  steady = c.in_ok-exchange.ensures.steady (λ e. took_no_store (first_number c.args.client.state) c.reply-reply.result.now c.in-Ready.ensures.after.0 (c.reply-reply.ensures ∙ e));
  cause = tt;
}

pub returns-in-Stopped-clause-keeps : goal.returns-in-Stopped-clause-keeps
returns-in-Stopped-clause-keeps g c =
    let reply = c.reply-reply.result.now in
    record {
      began = c.exchange.ensures.began;
      steady = tt;
      cause = PeerCause-fault (g.L.Link.faults c.args.link.now) (g.L.Link.faults c.exchange.new.link) reply c.in-Stopped.fault (λ e. c.in-Stopped.ensures.store (ap Some e)) (store_told reply c.in-Stopped.fault c.in-Stopped.ensures.after.2)
          (λ e. c.in_ok-exchange.ensures.store_fault (sym c.reply-reply.ensures ∙ e)) (λ other. c.in_ok-exchange.ensures.steady (λ e. other (c.reply-reply.ensures ∙ e)))
          c.stop_of_reply.result c.stop_of_reply.ensures.link c.stop_of_reply.ensures.store;
    }
