-- How a client starts from its disk.
use Rattle.std.specs.Prelude.{◌≡◌, ◌⊎◌, ℕ, Bool, true, false, List, None, Option, Result, Ok, Err, Some}
use Rattle.client_core.specs.declared.restored.Restored.{Restored}
use Rattle.client_registry.specs.Epochs.{key_now}
use Rattle.client_registry.specs.Run.{History}
use Rattle.keyed_fn.specs.KeyFormulas.{mark_of}
use Rattle.keyed_fn.specs.KeyedFn.{KeyedFn}
use Rattle.outside_memory_disk.specs.declared.mem_disk.MemDisk.{MemDisk}
use Rattle.sse_model.specs.Epochs.{key_in}
use Rattle.world_model.specs.World.{Disk}
use Rattle.world_model.specs.Events.{left}
use Rattle.world_disks.specs.Disks.{IsDiskOf, Holds, IsMet, IsUnmet}
use Rattle.world_disks.specs.declared.started.Unstarted.{Unstarted}
use Rattle.world_disks.specs.declared.started.Unstarted.TheVariants as unstarted
use Rattle.world_disks.specs.declared.stop.Stop.{Stop}
use Rattle.world_client.specs.Clients.{IsGreeting}
use Rattle.world_client.specs.Histories.{IsOfClient, records_under}
use Rattle.world_client.specs.declared.starts.StartedClient.{StartedClient}

-- the last key of a history has the mark of this one; before a setup there is none
abbrev pub IsUnder : KeyedFn → List ℕ → History → List ℕ → Type 0
IsUnder f first None key = Unit {0}
IsUnder f first (Some es) key = mark_of f (key_now first es) ≡ mark_of f key

-- a client that is made of the records of a history under this key
abbrev pub IsMadeUnder : KeyedFn → List ℕ → History → List ℕ → Restored → Type 0
IsMadeUnder f first h key client = IsUnder f first h key × (key ≡ key_in first h → IsGreeting f first h client)

-- this is the last key of a history, or the other is, and no other than the last one has its mark; before a setup it is the first
abbrev pub HasKey : KeyedFn → List ℕ → History → (key : List ℕ) (other : Option (List ℕ)) → Type 0
HasKey f first None key other = key ≡ first
HasKey f first (Some es) key other = ((key ≡ key_now first es) ⊎ (other ≡ Some (key_now first es))) × (mark_of f (key_now first es) ≡ mark_of f key → key ≡ key_now first es)

-- the records of a disk, with the one in doubt and without it, are those of two histories of a client, each of which has one of these keys last
pub record IsDiskOfClient (f : KeyedFn) (first : List ℕ) (histories : Bool → History) (key : List ℕ) (other : Option (List ℕ)) (model : Disk (List ℕ)) : Type 0 where
  pub client : (there : Bool) → IsOfClient f first (histories there)
  pub records : (there : Bool) → (left there model).records ≡ records_under f first (histories there)
  pub keys : (there : Bool) → HasKey f first (histories there) key other

-- the last key of a history is this one, or it is the other
abbrev pub IsLastKey : List ℕ → History → (key : List ℕ) (other : Option (List ℕ)) → (under_other : Bool) → Type 0
IsLastKey first h key other false = key ≡ key_in first h
IsLastKey first h key other true = other ≡ Some (key_in first h)

-- it is the client of the history that the disk gave, its journal has the records of that, and the last key is the one that is told; or it
-- has stopped; or a call of the disk failed or memory was missing, and the disk is as it was
abbrev pub IsStartedOf : KeyedFn → List ℕ → (histories : Bool → History) → (key : List ℕ) (other : Option (List ℕ)) → Disk (List ℕ) → Option Stop → Result StartedClient Unstarted → (calls : ℕ) → MemDisk → Type 0
IsStartedOf f first histories key other model stop (Ok started) calls disk =
    IsUnmet stop calls
    × ((there : Bool) × IsGreeting f first (histories there) started.client × Holds (left there model).records started.journal disk × IsLastKey first (histories there) key other started.under_other)
IsStartedOf f first histories key other model stop (Err unstarted.Stopped) calls disk = IsMet stop calls × ((there : Bool) × IsDiskOf (left there model) disk)
IsStartedOf f first histories key other model stop (Err unstarted.Broken) calls disk = IsDiskOf model disk
