-- How the start of a server ends, on a disk that may stop inside a call.
use Rattle.std.specs.Prelude.{ℕ, Bool, Option, Result, Ok, Err}
use Rattle.outside_memory_disk.specs.declared.mem_disk.MemDisk.{MemDisk}
use Rattle.sse_frames.specs.Frames.{FrameText}
use Rattle.sse_server.specs.StoreView.{StoreView}
use Rattle.world_disks.specs.Disks.{IsMet, IsUnmet}
use Rattle.world_disks.specs.declared.started.Unstarted.{Unstarted}
use Rattle.world_disks.specs.declared.started.Unstarted.TheVariants.{Stopped, Broken}
use Rattle.world_disks.specs.declared.stop.Stop.{Stop}
use Rattle.world_model.specs.World.{Disk}
use Rattle.world_model.specs.Events.{left}
use Rattle.world_server.specs.Serving.{Serves, IsDiskOfFrames}

-- it ended so, after so many calls of a disk of this model
abbrev pub IsOpened : Disk FrameText → Option Stop → Result StoreView Unstarted → (calls : ℕ) → MemDisk → Type 0
IsOpened model stop (Ok store) calls disk = IsUnmet stop calls × ((there : Bool) × Serves (left there model).records store disk)
IsOpened model stop (Err Stopped) calls disk = IsMet stop calls × ((there : Bool) × IsDiskOfFrames (left there model) disk)
IsOpened model stop (Err Broken) calls disk = IsDiskOfFrames model disk
