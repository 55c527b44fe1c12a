use Rattle.std.proofs.Common.{subst, sym}
use Rattle.keyed_fn.specs.KeyedFn.{keyed_fn}
use Rattle.world_model.specs.Events.{StopServer}
use Rattle.world_run.proofs.Stepping.{alone_leads}
use Rattle.world_run.specs.Worlds.{Stands, WorldView}
use Rattle.world_run.proofs.world.World.stop_server.Goals as goal

pub returns : goal.returns
returns g c = record {
  leads = λ first w stands.
      let f = keyed_fn g.K.Keyed.prf g.K.Keyed.pad in
      let i = c.self.inside in
      let world : WorldView = record { client = i.client; store = i.server.store; server_disk = i.server.disk; server_stop = i.server.stop; sent = i.link.sent.frames; waiting = i.link.waiting; asked = i.asked; dones = i.done.items } in
      let s : Stands f first w world = subst (Stands f first w) (sym c.self.view_is) stands in
      let new = c.stop_server.new.server in
      alone_leads f first w world s (StopServer c.args.call c.args.pick) c.stop_server.result new.store new.disk new.stop tt (c.stop_server.ensures.leads first w s.server_is);
}
