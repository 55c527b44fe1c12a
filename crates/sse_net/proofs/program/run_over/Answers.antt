use Rattle.std.proofs.Common.{[], ◌∷◌}
use Rattle.client_places.specs.Events.{HungUp, Closed}
use Rattle.def_script_meaning.proofs.GoneAsMeant.{Adds-joined}
use Rattle.sse_net.proofs.program.run_over.Goals as goal

pub returns-clause-runs : goal.returns-clause-runs
returns-clause-runs g c =
    let disk = c.run_as-status.result.1 in
    let link = c.run_as-status.new.link in
    record {
      disk2 = disk;
      link2 = link;
      ran = c.run_as-status.ensures.runs;
      disk_back = c.close.ensures.kept;
      link_back = c.close.ensures.hung_kept link c.hang_up.ensures.hung;
      events = Adds-joined (g.P.Places.events c.args.places.now) (g.P.Places.events c.hang_up.new.self) (g.P.Places.events c.close.new.self)
          (HungUp link ∷ []) (Closed disk ∷ []) c.hang_up.ensures.told c.close.ensures.told;
    }

pub returns-clause-streams : goal.returns-clause-streams
returns-clause-streams g c = c.run_as-status.ensures.streams
