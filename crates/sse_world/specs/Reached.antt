-- Worlds to which a list of events leads, and what a crash leaves of the server's disk in one.
use Rattle.std.specs.Prelude.{ℕ, Bool, List}
use Rattle.std.specs.List.{AllByRecursion}
use Rattle.keyed_fn.specs.KeyedFn.{KeyedFn}
use Rattle.outside_memory_disk.specs.MemDisk.{images_of}
use Rattle.outside_memory_disk.specs.declared.mem_disk.MemDisk.{MemDisk}
use Rattle.sse_frames.specs.Frames.{FrameText}
use Rattle.sse_journal.specs.Files.{Gives}
use Rattle.sse_model.specs.Histories.{frames_sent}
use Rattle.sse_server.specs.Taken.{bodies}
use Rattle.world_model.specs.Rules.{IsFront}
use Rattle.world_model.specs.World.{at_first}
use Rattle.world_model.specs.Events.{Event, Outcome, Led, left}
use Rattle.world_model.specs.Promises.{IsOfCommand}
use Rattle.world_rules.specs.Changes.{Change, history_of}
use Rattle.world_rules.specs.Promises.{StoreWorld, IsSizedChange}
use Rattle.world_rules.specs.Rules.{store_rules}

module _ (f : KeyedFn) (key : List ℕ) where
  -- these events, whose commands keep the limits of words, documents and identifiers, lead to it from the beginning
  pub record IsReached (w : StoreWorld) : Type 0 where
    pub events : List (Event Change (List ℕ) × Outcome)
    pub sized : AllByRecursion (λ e. IsOfCommand IsSizedChange e.0) events
    pub led : Led (store_rules f key) at_first events w

  -- each file that a crash may leave of the server's disk gives the bodies of frames that are the first of the client's history, whatever
  -- a crash leaves of the client's disk
  abbrev pub IsFrontOnDisk : StoreWorld → MemDisk → Type 0
  IsFrontOnDisk w disk = (image : List ℕ) → images_of disk image →
      (taken : List FrameText) × Gives (bodies taken) image × ((there : Bool) → IsFront (bodies taken) (bodies (frames_sent f key (history_of (left there w.client_disk).records))))
