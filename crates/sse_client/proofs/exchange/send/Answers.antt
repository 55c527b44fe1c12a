use Rattle.std.proofs.Common.{Err, sym, ap, subst}
use Rattle.script_run_texts.specs.Causes.{PeerCause}
use Rattle.script_run_texts.specs.Stops.{peer_cause}
use Rattle.sse_client.specs.Progress.{IsUnanswered}
use Rattle.sse_client.proofs.CountsAtStop.{PeerCause-link}
use Rattle.sse_client.proofs.TranscriptsJoined.{IsUnanswered-send}
use Rattle.sse_client.proofs.exchange.send.Goals as goal

pub returns-in-Err-clause-unanswered : goal.returns-in-Err-clause-unanswered
returns-in-Err-clause-unanswered g c =
    let old = g.L.Link.transcript c.args.link.now in
    let new = g.L.Link.transcript c.send.new.self in
    subst (λ stop. IsUnanswered old new c.args.frame.now (peer_cause stop)) (sym c.stop_of_link.ensures)
    (IsUnanswered-send old new c.args.frame.now c.in-Err.fault (λ e. c.in-Err.ensures.cut_told (ap Err e)) (λ e. c.in-Err.ensures.no_memory_told (ap Err e)))

pub returns-in-Err-clause-keeps : goal.returns-in-Err-clause-keeps
returns-in-Err-clause-keeps g c =
    let old = g.L.Link.faults c.args.link.now in
    let new = g.L.Link.faults c.send.new.self in
    record {
      began = c.send.ensures.began_kept;
      steady = tt;
      cause = subst (PeerCause old new) (sym c.stop_of_link.ensures)
          (PeerCause-link old new c.in-Err.fault (λ e. c.in-Err.ensures.cut_cause (ap Err e)) (λ e. c.in-Err.ensures.no_memory_count (ap Err e)));
    }
