-- What is so of the client of a world that is reached.
use Rattle.std.proofs.Common.{◌≡◌, ℕ, Bool, false, List, length, None, Some}
use Rattle.keyed_fn.specs.KeyedFn.{KeyedFn}
use Rattle.client_registry.specs.Histories.{frames_in}
use Rattle.client_registry.specs.Run.{History}
use Rattle.sse_model.specs.Histories.{frames_sent}
use Rattle.std.specs.List.{AllByRecursion}
use Rattle.world_model.proofs.Given.{are_of_events}
use Rattle.world_model.specs.Events.{left}
use Rattle.world_model.specs.Rules.{AreAccepted}
use Rattle.world_rules.proofs.Commands.{no_search, no_last_collision, last_collision_in}
use Rattle.world_rules.proofs.Commands as rules
use Rattle.world_rules.proofs.Kept.{store_promised}
use Rattle.world_rules.proofs.Numbered.{gapless}
use Rattle.world_rules.specs.Changes.{history_of}
use Rattle.world_rules.specs.Promises.{StoreWorld, IsSizedChange, KeepsStore}
use Rattle.world_rules.specs.Rules.{store_rules}
use Rattle.world_client.specs.Histories.{HasNoSearch, IsClear, IsOfClient}
use Rattle.sse_world.specs.Reached.{IsReached}

module _ (f : KeyedFn) (first : List ℕ) where
  no_searches : (h : History) → rules.HasNoSearch first h → HasNoSearch first h
  no_searches None p = p
  no_searches (Some es) p = p

  is_clear : (h : History) → last_collision_in f first h ≡ None → IsClear f first h
  is_clear None p = tt
  is_clear (Some es) p = p

  module _ (w : StoreWorld) (reached : IsReached f first w) where
    pub kept : (there : Bool) → KeepsStore f first (left there w.client_disk).records (left false w.server_disk).records w
    kept there = store_promised f first reached.events w reached.sized reached.led there false

    -- its history is one of a client, whatever a crash leaves
    pub of_client : (there : Bool) → IsOfClient f first (history_of (left there w.client_disk).records)
    of_client there =
        let k = kept there in
        let commands = (left there w.client_disk).records in
        record {
          whole = k.history.1;
          kept = k.history.0;
          differ = k.history.2;
          updates = no_searches (history_of commands) (no_search first commands);
          clear = is_clear (history_of commands) (no_last_collision f first commands (k.keeps).accepted);
        }

    -- and has as many frames as it counts
    pub counted : (there : Bool) → length (frames_sent f first (history_of (left there w.client_disk).records)) ≡ frames_in (history_of (left there w.client_disk).records)
    counted there = (gapless f first (left there w.client_disk).records ((kept there).keeps).accepted).count

    -- its commands were accepted, and keep their limits
    pub accepted_is : AreAccepted (store_rules f first) w.client_disk.records
    accepted_is = ((kept false).keeps).accepted

    pub sized_is : AllByRecursion IsSizedChange w.client_disk.records
    sized_is = are_of_events (store_rules f first) IsSizedChange reached.events w reached.sized reached.led false
