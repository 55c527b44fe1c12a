use Rattle.std.proofs.Common.{subst, sym}
use Rattle.world_run.proofs.Stepping.{finding_leads}
use Rattle.client_registry.specs.WordBytes.{word_bytes}
use Rattle.world_run.specs.Worlds.{Stands, WorldView}
use Rattle.world_run.proofs.world.World.find.Goals as goal

pub returns : goal.returns
returns g c = record {
  leads = λ f first w stands.
      let i = c.self.inside in
      let world : WorldView = record { client = i.client; store = i.server.store; server_disk = i.server.disk; server_stop = i.server.stop; sent = i.link.sent.frames; waiting = i.link.waiting; asked = i.asked; dones = i.done.items } in
      let s : Stands f first w world = subst (Stands f first w) (sym c.self.view_is) stands in
      let new = c.find.new in
      finding_leads f first w world s (word_bytes c.args.word) c.find.result new.self new.asked (c.find.ensures.leads f first w s.client_is s.asked_are);
}
