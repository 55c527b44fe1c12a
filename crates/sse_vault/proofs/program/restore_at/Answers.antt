use Rattle.std.proofs.Common.{[], ◌∷◌, inl}
use Rattle.client_places.specs.Events.{Connected, HungUp}
use Rattle.client_places.proofs.EventsJoined.{with_events-joined}
use Rattle.sse_vault.proofs.program.restore_at.Goals as goal

pub returns-in-Ok-clause-restores : goal.returns-in-Ok-clause-restores
returns-in-Ok-clause-restores g c =
    let restore = c.vault_restore-status in
    let link = restore.new.link in
    inl (record {
      link = c.in-Ok.link;
      link2 = link;
      reached = c.in-Ok.ensures.reached;
      ran = record { restored = restore.ensures.run; brings = restore.ensures.brings; devices = restore.ensures.devices };
      link_back = c.hang_up.ensures.hung;
      events = with_events-joined (g.P.Places.events c.args.places.now) (g.P.Places.events c.connect.new.self) (g.P.Places.events c.hang_up.new.self)
          (Connected c.args.address.now c.in-Ok.link ∷ []) (HungUp link ∷ []) c.in-Ok.ensures.told c.hang_up.ensures.told;
    })
