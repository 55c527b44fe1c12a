use Rattle.std.proofs.Common.{subst, sym}
use Rattle.world_model.specs.Events.{LoseReply}
use Rattle.world_run.proofs.Stepping.{client_leads}
use Rattle.world_run.specs.Worlds.{Stands, WorldView}
use Rattle.world_run.proofs.world.World.lose.Goals as goal

pub returns : goal.returns
returns g c = record {
  leads = λ f first w stands.
      let i = c.self.inside in
      let world : WorldView = record { client = i.client; store = i.server.store; server_disk = i.server.disk; server_stop = i.server.stop; sent = i.link.sent.frames; waiting = i.link.waiting; asked = i.asked; dones = i.done.items } in
      let s : Stands f first w world = subst (Stands f first w) (sym c.self.view_is) stands in
      let new = c.lose.new in
      client_leads f first w world s LoseReply c.lose.result new.self new.waiting tt (c.lose.ensures.leads f first w s.client_is (s.link_is).waits);
}
