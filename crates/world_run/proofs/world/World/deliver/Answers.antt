use Rattle.std.proofs.Common.{subst, sym}
use Rattle.keyed_fn.specs.KeyedFn.{keyed_fn}
use Rattle.world_model.specs.Events.{Deliver}
use Rattle.world_run.proofs.Stepping.{server_leads}
use Rattle.world_run.specs.Worlds.{Stands, WorldView}
use Rattle.world_run.proofs.world.World.deliver.Goals as goal

pub deliver-requires-clause-world : goal.deliver-requires-clause-world
deliver-requires-clause-world g c =
    let f = keyed_fn g.K.Keyed.prf g.K.Keyed.pad in
    let first = c.requires.world.0 in
    let w = c.requires.world.1 in
    let stands = c.requires.world.2 in
    let i = c.self.inside in
    let world : WorldView = record { client = i.client; store = i.server.store; server_disk = i.server.disk; server_stop = i.server.stop; sent = i.link.sent.frames; waiting = i.link.waiting; asked = i.asked; dones = i.done.items } in
    let s : Stands f first w world = subst (Stands f first w) (sym c.self.view_is) stands in
    (first, w, s.server_is, s.link_is)

pub returns-clause-leads : goal.returns-clause-leads
returns-clause-leads g c = λ first w stands.
    let f = keyed_fn g.K.Keyed.prf g.K.Keyed.pad in
    let i = c.self.inside in
    let world : WorldView = record { client = i.client; store = i.server.store; server_disk = i.server.disk; server_stop = i.server.stop; sent = i.link.sent.frames; waiting = i.link.waiting; asked = i.asked; dones = i.done.items } in
    let s : Stands f first w world = subst (Stands f first w) (sym c.self.view_is) stands in
    let server = c.deliver.new.server in
    let link = c.deliver.new.link in
    server_leads f first w world s (Deliver c.args.place) c.deliver.result server.store server.disk server.stop link.sent.frames link.waiting tt
    (c.deliver.ensures.leads first w s.server_is s.link_is (c.waits-waits.ensures f first w s.client_is))
