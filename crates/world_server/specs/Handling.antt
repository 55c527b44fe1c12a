-- How a server ends at a frame, on a disk that may stop inside a call.
use Rattle.std.specs.Prelude.{◌≡◌, ◌⊎◌, ℕ, Bool, List, [], ◌∷◌, ◌++◌, Option, IsSome, Some}
use Rattle.keyed_fn.specs.KeyedFn.{KeyedFn}
use Rattle.outside_memory_disk.specs.declared.mem_disk.MemDisk.{MemDisk}
use Rattle.sse_frames.specs.Frames.{FrameText, update_number}
use Rattle.sse_frames.specs.Replies as replies
use Rattle.sse_frames.specs.Replies.{InReplies}
use Rattle.sse_journal.specs.JournalView.{broken_by}
use Rattle.server_core.specs.State.{at_first}
use Rattle.server_core.specs.Step.{step}
use Rattle.sse_server.specs.StoreView.{StoreView}
use Rattle.sse_server.specs.Taken.{IsTaken, taken_all}
use Rattle.world_disks.specs.Disks.{IsMet, IsUnmet}
use Rattle.world_disks.specs.declared.stop.Stop.{Stop}
use Rattle.world_model.specs.Events.{left, in_doubt, settled}
use Rattle.world_server.specs.Replies.{replies_in, CanWrite}
use Rattle.world_server.specs.Serving.{Serves, IsDiskOfFrames}
use Rattle.world_server.specs.declared.handled.Handled.{Handled}
use Rattle.world_server.specs.declared.handled.Handled.TheVariants.{Took, Replied, Stopped, NoMemory, Broken}

-- a server that took these frames ended so at one more, after so many calls of the disk
abbrev pub IsHandled : KeyedFn → List FrameText → FrameText → Option Stop → Handled → (calls : ℕ) → StoreView → MemDisk → Type 0
IsHandled f frames frame stop (Took q) calls store disk =
    IsUnmet stop calls × IsTaken (taken_all at_first frames) frame × (update_number frame ≡ Some q) × Serves (frames ++ frame ∷ []) store disk
IsHandled f frames frame stop (Replied all) calls store disk =
    (IsTaken (taken_all at_first frames) frame → ⊥) × (replies_in all ≡ (step f (taken_all at_first frames) frame).1) × Serves frames store disk
IsHandled f frames frame stop Stopped calls store disk =
    IsMet stop calls × IsTaken (taken_all at_first frames) frame × (there : Bool) × IsDiskOfFrames (left there (in_doubt (settled frames) frame)) disk
IsHandled f frames frame stop NoMemory calls store disk = Serves frames store disk
IsHandled f frames frame stop Broken calls store disk =
    (IsSome (broken_by store.journal) ⊎ IsMet stop calls) × IsTaken (taken_all at_first frames) frame × IsDiskOfFrames (in_doubt (settled frames) frame) disk

-- its replies can be written
abbrev pub CanReply : Handled → Type 0
CanReply (Took q) = InReplies (replies.Took q)
CanReply (Replied all) = CanWrite all
CanReply _ = Unit {0}

-- it took the frame, or a call of its disk failed without a stop: then the disk is as the calls left it
abbrev pub HasCalled : Handled → Type 0
HasCalled (Took q) = Unit {0}
HasCalled Broken = Unit {0}
HasCalled other = ⊥

-- it replied, and took nothing
abbrev pub HasReplied : Handled → Type 0
HasReplied (Replied all) = Unit {0}
HasReplied other = ⊥
