use Rattle.std.proofs.Common.{subst, sym}
use Rattle.keyed_fn.specs.KeyedFn.{keyed_fn}
use Rattle.world_model.specs.Events.{StartClient}
use Rattle.world_run.proofs.Stepping.{client_leads}
use Rattle.world_run.specs.Worlds.{Stands, WorldView}
use Rattle.world_run.proofs.world.World.start_client.Goals as goal

pub start-requires : goal.start-requires
start-requires g c = record {
  world =
      let f = keyed_fn g.K.Keyed.prf g.K.Keyed.pad in
      let first = c.requires.world.0 in
      let w = c.requires.world.1 in
      let stands = c.requires.world.2 in
      let i = c.self.inside in
      let world : WorldView = record { client = i.client; store = i.server.store; server_disk = i.server.disk; server_stop = i.server.stop; sent = i.link.sent.frames; waiting = i.link.waiting; asked = i.asked; dones = i.done.items } in
      let s : Stands f first w world = subst (Stands f first w) (sym c.self.view_is) stands in
      (first, w, s.reached, s.client_is);
}

pub returns : goal.returns
returns g c = record {
  leads = λ first w stands.
      let f = keyed_fn g.K.Keyed.prf g.K.Keyed.pad in
      let i = c.self.inside in
      let world : WorldView = record { client = i.client; store = i.server.store; server_disk = i.server.disk; server_stop = i.server.stop; sent = i.link.sent.frames; waiting = i.link.waiting; asked = i.asked; dones = i.done.items } in
      let s : Stands f first w world = subst (Stands f first w) (sym c.self.view_is) stands in
      let new = c.start.new in
      client_leads f first w world s StartClient c.start.result new.self new.waiting tt (c.start.ensures.leads first w s.reached s.client_is (s.link_is).waits);
}
