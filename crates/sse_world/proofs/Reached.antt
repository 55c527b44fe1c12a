-- One event more leads to another world that is reached, and what is promised of one holds of the server's disk.
use Rattle.std.proofs.Common.{ℕ, List, [], ◌∷◌, ◌++◌, refl, subst}
use Rattle.std.specs.Prelude.{Option}
use Rattle.std.specs.List.{AllByRecursion}
use Rattle.keyed_fn.specs.KeyedFn.{KeyedFn}
use Rattle.outside_memory_disk.specs.declared.mem_disk.MemDisk.{MemDisk}
use Rattle.sse_journal.specs.Files.{Gives}
use Rattle.sse_server.specs.StoreView.{StoreView}
use Rattle.world_disks.specs.declared.stop.Stop as code
use Rattle.world_model.specs.World.{at_first}
use Rattle.world_model.specs.Events.{Event, Outcome, Leads, Led, left}
use Rattle.world_model.specs.Promises.{IsOfCommand}
use Rattle.world_rules.proofs.Kept.{store_promised}
use Rattle.world_rules.specs.Changes.{Change}
use Rattle.world_rules.specs.Promises.{StoreWorld, IsSizedChange}
use Rattle.world_rules.specs.Rules.{store_rules}
use Rattle.world_server.proofs.Serving.{spelled_left}
use Rattle.world_server.specs.Sides.{IsServer}
use Rattle.world_server.specs.Waiting.{server_part}
use Rattle.sse_world.specs.Reached.{IsReached, IsFrontOnDisk}

all_push : {X : Type 0} (P : X → Type 0) (xs : List X) (x : X) → AllByRecursion P xs → P x → AllByRecursion P (xs ++ x ∷ [])
all_push P [] x all p = (p, tt)
all_push P (y ∷ ys) x all p = (all.0, all_push P ys x all.1 p)

module _ (f : KeyedFn) (key : List ℕ) where
  led_push : (old : StoreWorld) (events : List (Event Change (List ℕ) × Outcome)) (w v : StoreWorld) (e : Event Change (List ℕ)) (out : Outcome)
      → Led (store_rules f key) old events w → Leads (store_rules f key) w e out v → Led (store_rules f key) old (events ++ (e, out) ∷ []) v
  led_push old [] w v e out led leads = (v, subst (λ x. Leads (store_rules f key) x e out v) led leads, refl)
  led_push old (first ∷ events) w v e out led leads = (led.0, led.1, led_push led.0 events w v e out led.2 leads)

  -- no events lead to the first world
  pub reached_first : IsReached f key at_first
  reached_first = record { events = []; sized = tt; led = refl }

  pub reached_next : (w v : StoreWorld) (e : Event Change (List ℕ)) (out : Outcome) → IsOfCommand IsSizedChange e → IsReached f key w → Leads (store_rules f key) w e out v → IsReached f key v
  reached_next w v e out sized r leads = record {
    events = r.events ++ (e, out) ∷ [];
    sized = all_push (λ x. IsOfCommand IsSizedChange x.0) r.events (e, out) r.sized sized;
    led = led_push at_first r.events w v e out r.led leads;
  }

  -- what a crash leaves of the server's disk are the first frames of the client's history
  pub front_on_disk : (w : StoreWorld) (store : Option StoreView) (disk : MemDisk) (stop : Option code.Stop) → IsReached f key w → IsServer (server_part w) store disk stop → IsFrontOnDisk f key w disk
  front_on_disk w store disk stop r server image is =
      let one = server.disk_is image is in
      ((left one.0 w.server_disk).records, subst (λ d. Gives d.records image) (spelled_left w.server_disk one.0) one.1, λ there. (store_promised f key r.events w r.sized r.led there one.0).bodies_are)
