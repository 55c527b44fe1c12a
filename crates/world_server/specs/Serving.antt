-- A store of a world, on its disk.
use Rattle.std.specs.Prelude.{◌≡◌, ℕ, List, None, Some, option_map}
use Rattle.outside_memory_disk.specs.MemDisk.{file_of, images_of}
use Rattle.outside_memory_disk.specs.declared.mem_disk.MemDisk.{MemDisk}
use Rattle.sse_frames.specs.Frames.{FrameText, body_of}
use Rattle.sse_journal.specs.JournalView.{broken_by}
use Rattle.sse_server.specs.StoreView.{StoreView, IsStoreOf}
use Rattle.sse_server.specs.Taken.{bodies}
use Rattle.world_model.specs.World.{Disk}
use Rattle.world_disks.specs.Disks.{IsDiskOf}

-- a store that has taken these frames, and takes more
pub record Serves (frames : List FrameText) (store : StoreView) (disk : MemDisk) : Type 0 where
  pub whole : broken_by store.journal ≡ None
  pub is : IsStoreOf frames store (Some (file_of disk)) (images_of disk)

-- a disk of frames, as the journal's records that their bodies are
abbrev pub spelled : Disk FrameText → Disk (List ℕ)
spelled disk = record { records = bodies disk.records; doubt = option_map body_of disk.doubt }

abbrev pub IsDiskOfFrames : Disk FrameText → MemDisk → Type 0
IsDiskOfFrames model disk = IsDiskOf (spelled model) disk
