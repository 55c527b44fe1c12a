use Rattle.std.proofs.Common.{[], ◌∷◌}
use Rattle.service_places.specs.Places.{Ended, Closed}
use Rattle.service_places.proofs.Chains.{chained}
use Rattle.vault_served.proofs.program.serve_over.Goals as goal

pub returns-clause-serves : goal.returns-clause-serves
returns-clause-serves g c =
    let disk = c.serve_words-status.new.disk in
    let conns = c.serve_words-status.new.conns in
    record {
      disk2 = disk;
      conns2 = conns;
      ran = c.serve_words-status.ensures.serves;
      disk_back = c.close.ensures.kept;
      conns_back = c.close.ensures.ended_kept conns c.end.ensures.ended;
      events = chained _ _ _ (Ended conns ∷ []) (Closed disk ∷ []) c.end.ensures.told c.close.ensures.told;
    }
