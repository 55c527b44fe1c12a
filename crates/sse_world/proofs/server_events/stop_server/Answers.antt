use Rattle.std.proofs.Common.{refl}
use Rattle.keyed_fn.specs.KeyedFn.{keyed_fn}
use Rattle.world_rules.specs.Rules.{store_rules}
use Rattle.world_server.proofs.Leading.{stopped_leads, lacking_leads}
use Rattle.world_server.specs.Sides.{stopping}
use Rattle.world_server.specs.Waiting.{server_part, with_server}
use Rattle.sse_world.proofs.Rules.{server_rules}
use Rattle.sse_world.proofs.server_events.stop_server.Goals as goal

pub returns-in-Ok-clause-leads : goal.returns-in-Ok-clause-leads
returns-in-Ok-clause-leads g c = λ key w server.
    let f = keyed_fn g.K.Keyed.prf g.K.Keyed.pad in
    let s = c.in-Ok.ensures.stops (server_part w) server in
    (with_server w (stopping (server_part w) c.args.call c.args.pick s.0) w.waiting, stopped_leads f (store_rules f key) (server_rules f key) w c.args.call c.args.pick s.0, refl, refl, s.1)

pub returns-in-Err-clause-leads : goal.returns-in-Err-clause-leads
returns-in-Err-clause-leads g c = λ key w server.
    let f = keyed_fn g.K.Keyed.prf g.K.Keyed.pad in
    (w, lacking_leads f (store_rules f key) (server_rules f key) w c.args.call c.args.pick, refl, refl, c.in-Err.ensures.err (server_part w) server)
