-- What a registry keeps once its client has renewed its key: the live pairs are the listed ones, and no addition was made yet.
use Rattle.std.specs.Prelude.{take, map, unwrap_or}
use Rattle.client_registry.specs.Registered.{Registered, Kept}

-- of an identifier the numbers of its live document's words alone, and none where none is live
abbrev pub kept_restarted : Kept → Kept
kept_restarted k = record { id = k.id; numbers = take (unwrap_or k.live 0) k.numbers; live = k.live }

abbrev pub restarted : Registered → Registered
restarted r = record {
  counts = map (λ e. (e.0, 0)) r.counts;
  kept = map kept_restarted r.kept;
  room = r.room;
  keys = r.keys;
}
