use Rattle.std.proofs.Common.{[], ◌∷◌}
use Rattle.client_places.specs.Events.{HungUp, Closed}
use Rattle.client_places.proofs.EventsJoined.{with_events-joined}
use Rattle.sse_vault.proofs.program.run_over.Goals as goal

pub returns-clause-runs : goal.returns-clause-runs
returns-clause-runs g c =
    let run = c.vault_run-status in
    let disk = run.result.1 in
    let link = run.new.link in
    record {
      disk2 = disk;
      link2 = link;
      ran = record { begun = run.ensures.begun; resumed = run.ensures.more; devices = run.ensures.devices };
      disk_back = c.close.ensures.kept;
      link_back = c.close.ensures.hung_kept link c.hang_up.ensures.hung;
      events = with_events-joined (g.P.Places.events c.args.places.now) (g.P.Places.events c.hang_up.new.self) (g.P.Places.events c.close.new.self)
          (HungUp link ∷ []) (Closed disk ∷ []) c.hang_up.ensures.told c.close.ensures.told;
    }
