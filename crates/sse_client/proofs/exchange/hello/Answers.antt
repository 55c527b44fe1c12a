use Rattle.std.proofs.Common.{ℕ, List, ◌≡◌, ◌++◌, [], sym, ap, subst, ◌∙◌}
use Rattle.script_run_texts.specs.Stops.{peer_cause}
use Rattle.script_run_texts.specs.declared.peer_stop.PeerStop.TheVariants as peers
use Rattle.def_script_meaning.specs.HelloExchange.{TurnsAway}
use Rattle.sse_frames.specs.Frames.{Hello, frame_bytes}
use Rattle.sse_frames.specs.Replies.{Next, reply_bytes}
use Rattle.sse_client.specs.Progress.{IsAnswered}
use Rattle.sse_client.proofs.CountsAtStop.{PeerCause-fault, store_told}
use Rattle.sse_client.proofs.PartOfExchange.{TurnsAway-memory, TurnsAway-unanswered, TurnsAway-answered, shows_to_hello}
use Rattle.sse_client.proofs.TranscriptsJoined.{IfErr-from, IsAnswered-same}
use Rattle.sse_client.proofs.exchange.hello.Goals as goal

behind_nothing : (old new front : List ℕ) → old ≡ [] → new ≡ old ++ front → new ≡ front
behind_nothing old new front none e = e ∙ ap (λ items. items ++ front) none

pub exchange-requires : goal.exchange-requires
exchange-requires g c = record {
  frame = record {
    frame = Hello;
    grammar = tt;
    spelled = c.deref.ensures.value ∙ behind_nothing c.new-hello.result.items c.write_frame.new.out.items (frame_bytes Hello) c.new-hello.ensures.items c.in_ok-write_frame.ensures.ok;
  };
}

pub returns-clause-turned_away : goal.returns-clause-turned_away
returns-clause-turned_away g c = λ low high.
    let old = g.L.Link.transcript c.args.link.now in
    let new = g.L.Link.transcript c.exchange.new.link in
    let reply = c.reply-reply.result.now in
    let answered : IsAnswered old new c.deref.result.now reply = IsAnswered-same old new c.deref.result.now c.exchange.new.buffer reply c.reply-reply.ensures c.in_ok-exchange.ensures.answered in
    let spelled : c.deref.result.now ≡ frame_bytes Hello = c.deref.ensures.value ∙ behind_nothing c.new-hello.result.items c.write_frame.new.out.items (frame_bytes Hello) c.new-hello.ensures.items c.in_ok-write_frame.ensures.ok in
    subst (TurnsAway low high old new) (sym c.stop_of_reply.ensures.cause)
    (TurnsAway-answered low high old new c.deref.result.now reply _ spelled answered
    (shows_to_hello low high reply c.fault_of.result (λ q below e. let wrong = c.in-None.ensures.only q below e in absurd cc) c.fault_of.ensures.fault))

pub returns-in_err-write_frame-clause-turned_away :
    goal.returns-in_err-write_frame-clause-turned_away
returns-in_err-write_frame-clause-turned_away g c =
    let told = g.L.Link.transcript c.args.link.now in
    IfErr-from c.from_residual.result peers.Memory (λ stop. (low high : ℕ) → TurnsAway low high told told (peer_cause stop)) c.from_residual.ensures.1 (λ low high. TurnsAway-memory low high told)

pub returns-in_err-exchange-clause-turned_away : goal.returns-in_err-exchange-clause-turned_away
returns-in_err-exchange-clause-turned_away g c =
    let old = g.L.Link.transcript c.args.link.now in
    let new = g.L.Link.transcript c.exchange.new.link in
    let stop = c.in_err-exchange.field-0.0 in
    let spelled : c.deref.result.now ≡ frame_bytes Hello = c.deref.ensures.value ∙ behind_nothing c.new-hello.result.items c.write_frame.new.out.items (frame_bytes Hello) c.new-hello.ensures.items c.in_ok-write_frame.ensures.ok in
    IfErr-from c.from_residual-in_err-exchange.result stop (λ e. (low high : ℕ) → TurnsAway low high old new (peer_cause e)) c.from_residual-in_err-exchange.ensures.1
    (λ low high. TurnsAway-unanswered low high old new c.deref.result.now (peer_cause stop) spelled c.in_err-exchange.ensures.unanswered)

pub returns-clause-keeps : goal.returns-clause-keeps
returns-clause-keeps g c =
    let reply = c.reply-reply.result.now in
    record {
      began = c.exchange.ensures.began;
      steady = tt;
      cause = PeerCause-fault (g.L.Link.faults c.args.link.now) (g.L.Link.faults c.exchange.new.link) reply c.fault_of.result c.fault_of.ensures.store (store_told reply c.fault_of.result c.fault_of.ensures.fault)
          (λ e. c.in_ok-exchange.ensures.store_fault (sym c.reply-reply.ensures ∙ e)) (λ other. c.in_ok-exchange.ensures.steady (λ e. other (c.reply-reply.ensures ∙ e)))
          c.stop_of_reply.result c.stop_of_reply.ensures.link c.stop_of_reply.ensures.store;
    }

pub returns-in-Some-clause-answered : goal.returns-in-Some-clause-answered
returns-in-Some-clause-answered g c =
    let old = g.L.Link.transcript c.args.link.now in
    let new = g.L.Link.transcript c.exchange.new.link in
    let reply = c.reply-reply.result.now in
    let answered : IsAnswered old new c.deref.result.now reply = IsAnswered-same old new c.deref.result.now c.exchange.new.buffer reply c.reply-reply.ensures c.in_ok-exchange.ensures.answered in
    let spelled : c.deref.result.now ≡ frame_bytes Hello = c.deref.ensures.value ∙ behind_nothing c.new-hello.result.items c.write_frame.new.out.items (frame_bytes Hello) c.new-hello.ensures.items c.in_ok-write_frame.ensures.ok in
    subst (λ frame. IsAnswered old new frame (reply_bytes (Next c.in-Some.next))) spelled (IsAnswered-same old new c.deref.result.now reply (reply_bytes (Next c.in-Some.next)) (sym c.in-Some.ensures.found) answered)
