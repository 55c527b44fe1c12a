use Rattle.std.proofs.Common.{refl}
use Rattle.world_server.proofs.Serving.{left_frames}
use Rattle.world_server.proofs.opened.open.Goals as goal

pub returns-in-Yes : goal.returns-in-Yes
returns-in-Yes g c =
    let met = c.stop_if_met.ensures.yes c.in-Yes.is in
    record {
      opened = λ model taken is. (met.0, left_frames model c.open_counted-store.new.disk c.stop_if_met.new.disk met.1 (c.open_counted-store.ensures.disk model is));
      counted = λ not. absurd (not refl);
    }
