use Rattle.std.proofs.Common.{◌≡◌, ◌<◌, ◌≤◌, ◌+◌, ◌++◌, ℕ, List, length}
use Rattle.std.specs.Vec.{vec_capacity, vec_len}
use Rattle.keyed_fn.specs.KeyedFn.{keyed_fn}
use Rattle.world_model.specs.World.{at_first}
use Rattle.world_rules.specs.Promises.{StoreWorld}
use Rattle.world_run.specs.Worlds.{Passes, Stands}
use Rattle.world_run.proofs.whole_run.play.Given as goal

abbrev pub invariant-loop-event : goal.invariant-loop-event
invariant-loop-event g l = record {
  passes : (first : List ℕ) → Stands (keyed_fn g.K.Keyed.prf g.K.Keyed.pad) first at_first l.fn.world →
      (w : StoreWorld) × Passes (keyed_fn g.K.Keyed.prf g.K.Keyed.pad) first at_first l.yielded l.behinds.items w × Stands (keyed_fn g.K.Keyed.prf g.K.Keyed.pad) first w l.world;
  split : l.fn.events.items ≡ l.yielded ++ l.event-iterator.rest.items;
  room : (0 < length l.page) × (65544 ≤ length l.buffer);
  fits : vec_len l.behinds + length l.event-iterator.rest.items ≤ vec_capacity l.behinds;
}
