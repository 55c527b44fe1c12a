use Rattle.std.proofs.Common.{subst, sym}
use Rattle.keyed_fn.specs.KeyedFn.{keyed_fn}
use Rattle.world_run.proofs.Stepping.{sending_leads}
use Rattle.world_run.specs.Worlds.{Stands, WorldView}
use Rattle.world_run.specs.declared.client_side.ClientSide.{ClientSide}
use Rattle.world_run.proofs.world.World.send.Goals as goal

pub send-requires-clause-world : goal.send-requires-clause-world
send-requires-clause-world g c =
    let f = keyed_fn g.K.Keyed.prf g.K.Keyed.pad in
    let first = c.requires.world.0 in
    let w = c.requires.world.1 in
    let stands = c.requires.world.2 in
    let i = c.self.inside in
    let world : WorldView = record { client = i.client; store = i.server.store; server_disk = i.server.disk; server_stop = i.server.stop; sent = i.link.sent.frames; waiting = i.link.waiting; asked = i.asked; dones = i.done.items } in
    let s : Stands f first w world = subst (Stands f first w) (sym c.self.view_is) stands in
    (first, w, i.client.disk, i.client.stop, i.client.other, s.reached, s.client_is, s.link_is, s.asked_are, s.dones_are)

pub returns-clause-leads : goal.returns-clause-leads
returns-clause-leads g c = λ first w stands.
    let f = keyed_fn g.K.Keyed.prf g.K.Keyed.pad in
    let i = c.self.inside in
    let world : WorldView = record { client = i.client; store = i.server.store; server_disk = i.server.disk; server_stop = i.server.stop; sent = i.link.sent.frames; waiting = i.link.waiting; asked = i.asked; dones = i.done.items } in
    let s : Stands f first w world = subst (Stands f first w) (sym c.self.view_is) stands in
    let new = c.send.new in
    let client : ClientSide = record i.client { running = new.running } in
    sending_leads f first w world s c.send.result client new.link.sent.frames new.link.waiting new.done.items
    (c.send.ensures.leads first w i.client.disk i.client.stop i.client.other s.reached s.client_is s.link_is s.asked_are s.dones_are)
