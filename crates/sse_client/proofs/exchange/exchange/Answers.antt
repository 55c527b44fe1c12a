use Rattle.std.proofs.Common.{[], ◌∷◌, subst, ◌∙◌}
use Rattle.def_link_events.specs.Events.{Sent}
use Rattle.script_run_texts.specs.Causes.{PeerCause}
use Rattle.script_run_texts.specs.Stops.{peer_cause}
use Rattle.std.specs.Prelude.{IfErr}
use Rattle.sse_client.proofs.TranscriptsJoined.{Adds-joined, IsUnanswered-recv, OnOk-then, IfErr-both}
use Rattle.sse_client.proofs.exchange.exchange.Goals as goal

pub returns-clause-answered : goal.returns-clause-answered
returns-clause-answered g c =
    let sent = c.in_ok-send.ensures.sent in
    OnOk-then c.receive.result _ _ (λ told. (sent.0, Adds-joined (g.L.Link.transcript c.args.link.now) (g.L.Link.transcript c.send.new.link) (g.L.Link.transcript c.receive.new.link) (Sent c.args.frame.now sent.0 ∷ []) _ sent.1 told)) c.receive.ensures.told

pub returns-clause-unanswered : goal.returns-clause-unanswered
returns-clause-unanswered g c =
    IfErr-both c.receive.result _ _ _
    (λ stop outside untold. IsUnanswered-recv (g.L.Link.transcript c.args.link.now) (g.L.Link.transcript c.send.new.link) (g.L.Link.transcript c.receive.new.link) c.args.frame.now (peer_cause stop) c.in_ok-send.ensures.sent untold outside)
    c.receive.ensures.outside c.receive.ensures.untold

pub returns-clause-cause : goal.returns-clause-cause
returns-clause-cause g c = subst (λ before. IfErr c.receive.result (PeerCause before (g.L.Link.faults c.receive.new.link))) c.in_ok-send.ensures.keeps.steady c.receive.ensures.cause

pub returns-clause-steady : goal.returns-clause-steady
returns-clause-steady g c = OnOk-then c.receive.result _ _ (λ steady other. steady other ∙ c.in_ok-send.ensures.keeps.steady) c.receive.ensures.steady
