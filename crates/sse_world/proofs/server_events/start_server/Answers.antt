use Rattle.std.proofs.Common.{refl, sym, subst}
use Rattle.keyed_fn.specs.KeyedFn.{keyed_fn}
use Rattle.world_model.specs.Events.{StartServer, Leads}
use Rattle.world_rules.specs.Rules.{store_rules}
use Rattle.world_server.proofs.Leading.{started_leads}
use Rattle.world_server.specs.Waiting.{server_part, with_server}
use Rattle.sse_world.proofs.Counting.{counted_start}
use Rattle.sse_world.proofs.Rules.{server_rules}
use Rattle.sse_world.proofs.server_events.start_server.Goals as goal

pub returns-clause-leads : goal.returns-clause-leads
returns-clause-leads g c = λ key w server.
    let f = keyed_fn g.K.Keyed.prf g.K.Keyed.pad in
    let s = c.start.ensures.starts (server_part w) server in
    let v = with_server w s.0 w.waiting in
    (v, subst (λ o. Leads (store_rules f key) w StartServer o v) (sym c.start_outcome.ensures) (started_leads f (store_rules f key) (server_rules f key) w c.start.result s.0 s.1), refl, refl, s.2)

pub returns-clause-counted : goal.returns-clause-counted
returns-clause-counted g c = λ none.
    let old = c.args.server.now in
    let new = c.start.new.self in
    counted_start old.disk new.disk old.stop new.stop c.start.result c.start_outcome.result new.store c.start_outcome.ensures c.start.ensures.gone (c.start.ensures.counted none)
