-- What a start makes of the client's part of a world.
use Rattle.std.specs.Prelude.{◌≡◌, ℕ, Bool, false, List, Option, None, Some}
use Rattle.keyed_fn.specs.KeyedFn.{KeyedFn}
use Rattle.outside_memory_disk.specs.declared.mem_disk.MemDisk.{MemDisk}
use Rattle.world_disks.specs.declared.started.Unstarted.{Unstarted}
use Rattle.world_disks.specs.declared.started.Unstarted.TheVariants as unstarted
use Rattle.world_disks.specs.declared.stop.Stop as code
use Rattle.world_model.specs.World.{Greets}
use Rattle.world_model.specs.Events.{End, Made, Crashes, Lacks, Breaks, EndsCalling, left, stop_behind}
use Rattle.world_rules.specs.Changes.{history_of}
use Rattle.world_client.specs.Histories.{IsOfClient}
use Rattle.sse_world.specs.declared.event.Outcome.{Outcome}
use Rattle.sse_world.specs.declared.event.Outcome.TheVariants.{Done, NoMemory}
use Rattle.world_run.specs.Sides.{ClientPart, IsClient}
use Rattle.world_run.specs.declared.running.Running.{Running}

-- the start of a client that doesn't run, where it ends so after so many calls of its disk: it is to greet, or it still doesn't run
abbrev pub starting : ClientPart → (calls : ℕ) → End → ClientPart
starting part calls (Made there) = record {
  disk = left there part.disk;
  client = Some (record { commands = (left there part.disk).records; phase = Greets; waits = false });
  stop = stop_behind calls (Made there) part.stop;
}
starting part calls (Crashes there) = record { disk = left there part.disk; client = None; stop = None }
starting part calls Lacks = record part { client = None }
starting part calls Breaks = record part { client = None; stop = stop_behind calls Breaks part.stop }

-- what it comes to then
abbrev pub IsEndOf : End → Outcome → Type 0
IsEndOf (Made there) out = out ≡ Done
IsEndOf (Crashes there) out = out ≡ Done
IsEndOf Lacks out = out ≡ NoMemory
IsEndOf Breaks out = out ≡ NoMemory

-- what a start that failed comes to: a stop that came is no failure
abbrev pub outcome_of_failure : Unstarted → Outcome
outcome_of_failure unstarted.Stopped = Done
outcome_of_failure unstarted.Broken = NoMemory

-- a client that doesn't run was started, or it wasn't
pub record Starts (old : ClientPart) (out : Outcome) (new : ClientPart) : Type 0 where
  pub calls : ℕ
  pub end : End
  pub ends : EndsCalling calls end old.stop
  pub comes_to : IsEndOf end out
  pub is : new ≡ starting old calls end

module _ (f : KeyedFn) (first : List ℕ) where
  -- this side was started from the part
  abbrev pub IsStartOf : ClientPart → Outcome → Option Running → MemDisk → Option code.Stop → (key : List ℕ) → (other : Option (List ℕ)) → Type 0
  IsStartOf old out running disk stop key other = (new : ClientPart) × Starts old out new × IsClient f first new running disk stop key other

  -- the commands on the disk of this part, with the one in doubt and without it, are those of a client
  abbrev pub AreOfClient : ClientPart → Type 0
  AreOfClient part = (there : Bool) → IsOfClient f first (history_of (left there part.disk).records)
