use Rattle.std.proofs.Common.{ℕ, List, [], ◌∷◌, ◌++◌, Err, take, rules, sym, ap, subst, ◌∙◌}
use Rattle.std.proofs.lemmas.List.{with_items_is, places}
use Rattle.std.specs.Option.{option_map}
use Rattle.def_link_events.specs.Events.{Received}
use Rattle.script_run_texts.specs.Causes.{PeerCause}
use Rattle.script_run_texts.specs.Stops.{peer_cause}
use Rattle.sse_client.specs.Progress.{IsOutside}
use Rattle.sse_client.proofs.CountsAtStop.{PeerCause-link}
use Rattle.sse_client.proofs.TranscriptsJoined.{from_outside}
use Rattle.sse_client.proofs.reply_buffer.ReplyBuffer.receive.Goals as goal

pub returns-in-Err-clause-outside : goal.returns-in-Err-clause-outside
returns-in-Err-clause-outside g c = subst (λ stop. IsOutside (peer_cause stop)) (sym c.stop_of_link.ensures) (from_outside c.in-Err.fault)

pub returns-in-Err-clause-cause : goal.returns-in-Err-clause-cause
returns-in-Err-clause-cause g c =
    let old = g.L.Link.faults c.args.link.now in
    let new = g.L.Link.faults c.recv.new.self in
    subst (PeerCause old new) (sym c.stop_of_link.ensures)
    (PeerCause-link old new c.in-Err.fault (λ e. c.in-Err.ensures.cut_cause (ap Err e)) (λ e. c.in-Err.ensures.no_memory_count (ap Err e)))

pub returns-in-Ok-clause-told : goal.returns-in-Ok-clause-told
returns-in-Ok-clause-told g c =
    c.in-Ok.ensures.told ∙ ap (λ (reply : List ℕ). option_map (λ events. events ++ Received reply ∷ []) (g.L.Link.transcript c.args.link.now))
    (sym (ap (take c.in-Ok.size) (with_items_is c.self.inside.bytes c.recv.new.out (search (rules, places)))))
