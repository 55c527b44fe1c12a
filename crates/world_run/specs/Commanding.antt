-- What is so of a client of a world before a command is carried out.
use Rattle.std.specs.Prelude.{◌≡◌, ◌<◌, ℕ, false, List, Option, Some, IfSome}
use Rattle.keyed_fn.specs.KeyedFn.{KeyedFn}
use Rattle.sse_model.specs.Epochs.{key_in}
use Rattle.world_disks.specs.declared.stop.Stop as code
use Rattle.world_model.specs.World.{Client}
use Rattle.world_model.specs.Events.{settled}
use Rattle.world_rules.specs.Changes.{Change, history_of}
use Rattle.world_rules.specs.Promises.{StoreWorld}
use Rattle.world_server.specs.Sides.{stop_in}
use Rattle.sse_world.specs.Reached.{IsReached}
use Rattle.world_run.specs.Commands.{key_of}
use Rattle.world_run.specs.Sides.{client_part}

-- In a world that is reached, a client runs that waits for nothing. This is the last key of its commands, this stop hasn't come yet, and the
-- change brings that other key.
pub record IsCommanding (f : KeyedFn) (first : List ℕ) (w : StoreWorld) (c : Change) (stop : Option code.Stop) (key : List ℕ) (own : Option (List ℕ)) : Type 0 where
  pub reached : IsReached f first w
  pub r : Client Change (List ℕ)
  pub part_is : client_part w ≡ record { disk = settled r.commands; client = Some r; stop = stop_in stop }
  pub waits : r.waits ≡ false
  pub key_is : key ≡ key_in first (history_of r.commands)
  pub own_is : own ≡ key_of c
  pub to_come : IfSome (stop_in stop) (λ s. 0 < s.call)
