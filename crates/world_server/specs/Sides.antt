-- The server's part of a world, and what its events make of it.
use Rattle.std.specs.Prelude.{◌≡◌, ◌⊎◌, ◌<◌, ◌-◌, ℕ, zero, suc, Bool, List, [], ◌∷◌, ◌++◌, Option, None, Some, IfSome, IsSome, Result, Ok, Err}
use Rattle.keyed_fn.specs.KeyedFn.{KeyedFn}
use Rattle.outside_memory_disk.specs.MemDisk.{next_call_of}
use Rattle.outside_memory_disk.specs.declared.mem_disk.MemDisk.{MemDisk}
use Rattle.sse_frames.specs.Frames.{FrameText, update_number}
use Rattle.sse_frames.specs.Replies as replies
use Rattle.server_core.specs.State.{at_first}
use Rattle.server_core.specs.Step.{step}
use Rattle.sse_server.specs.StoreView.{StoreView}
use Rattle.sse_server.specs.Taken.{IsTaken, AreTaken, taken_all}
use Rattle.world_disks.specs.declared.started.Unstarted.{Unstarted}
use Rattle.world_disks.specs.declared.started.Unstarted.TheVariants as unstarted
use Rattle.world_disks.specs.declared.stop.Stop as code
use Rattle.world_model.specs.World.{Disk, Stop}
use Rattle.world_model.specs.Events.{End, Made, Crashes, Lacks, Breaks, left, in_doubt, settled, later, stop_behind, stop_before, EndsCalling}
use Rattle.world_server.specs.Replies.{replies_in, CanWrite}
use Rattle.world_server.specs.Serving.{Serves, IsDiskOfFrames}
use Rattle.world_server.specs.declared.replies.Replies.{Replies}
use Rattle.world_server.specs.declared.server_side.Delivered.{Delivered}
use Rattle.world_server.specs.declared.server_side.Delivered.TheVariants.{Nothing, Replied, Stopped, NoMemory, Broken}

-- its disk; the frames that it took, where it runs; and the stop that hasn't come yet
pub record ServerPart : Type 0 where
  pub disk : Disk FrameText
  pub taken : Option (List FrameText)
  pub stop : Option Stop

abbrev pub stop_in : Option code.Stop → Option Stop
stop_in None = None
stop_in (Some s) = Some (record { call = s.call; pick = s.pick })

-- a store runs if and only if the model's does: it has taken the same frames, and nothing is in doubt on its disk
abbrev pub Runs : Disk FrameText → Option (List FrameText) → Option StoreView → MemDisk → Type 0
Runs model None None disk = Unit {0}
Runs model (Some taken) (Some store) disk = (model ≡ settled taken) × Serves taken store disk
Runs model _ _ disk = ⊥

-- the side that runs this part
pub record IsServer (part : ServerPart) (store : Option StoreView) (disk : MemDisk) (stop : Option code.Stop) : Type 0 where
  pub disk_is : IsDiskOfFrames part.disk disk
  -- the frames of whatever a crash leaves are taken one after the other
  pub are_taken : (there : Bool) → AreTaken at_first (left there part.disk).records
  pub runs : Runs part.disk part.taken store disk
  pub stop_is : part.stop ≡ stop_in stop
  -- a stop that hasn't come yet is still to come
  pub to_come : IfSome part.stop (λ s. 0 < s.call)

-- an update frame that is taken, where the event ends so after so many calls of the disk
abbrev pub taking : ServerPart → List FrameText → FrameText → (calls : ℕ) → End → ServerPart
taking part taken frame calls (Made there) =
    record { disk = settled (part.disk.records ++ frame ∷ []); taken = Some (taken ++ frame ∷ []); stop = stop_behind calls (Made there) part.stop }
taking part taken frame calls (Crashes there) = record { disk = left there (in_doubt part.disk frame); taken = None; stop = None }
taking part taken frame calls Lacks = part
taking part taken frame calls Breaks = record { disk = in_doubt part.disk frame; taken = None; stop = stop_behind calls Breaks part.stop }

-- what the server's answer is then
abbrev pub IsAnsweredBy : End → FrameText → Delivered → Type 0
IsAnsweredBy (Made there) frame delivered = (kept : Replies) × (q : ℕ) × (delivered ≡ Replied kept) × (update_number frame ≡ Some q) × (replies_in kept ≡ replies.Took q ∷ [])
IsAnsweredBy (Crashes there) frame delivered = delivered ≡ Stopped
IsAnsweredBy Lacks frame delivered = delivered ≡ NoMemory
IsAnsweredBy Breaks frame delivered = delivered ≡ Broken

-- and that to a frame that isn't taken: by the server's step, unless memory runs out
abbrev pub IsUntaken : KeyedFn → List FrameText → FrameText → Delivered → Type 0
IsUntaken f taken frame delivered =
    (delivered ≡ NoMemory) ⊎ ((kept : Replies) × (delivered ≡ Replied kept) × (replies_in kept ≡ (step f (taken_all at_first taken) frame).1))

-- a frame that is taken came to the server
pub record Takes (old : ServerPart) (taken : List FrameText) (frame : FrameText) (delivered : Delivered) (new : ServerPart) : Type 0 where
  pub is_taken : IsTaken (taken_all at_first taken) frame
  pub calls : ℕ
  pub end : End
  pub ends : EndsCalling calls end old.stop
  pub answered : IsAnsweredBy end frame delivered
  pub is : new ≡ taking old taken frame calls end

-- one that isn't
pub record Stays (f : KeyedFn) (old : ServerPart) (taken : List FrameText) (frame : FrameText) (delivered : Delivered) (new : ServerPart) : Type 0 where
  pub not_taken : IsTaken (taken_all at_first taken) frame → ⊥
  pub answered : IsUntaken f taken frame delivered
  pub is : new ≡ old

-- a frame came to the server: nothing happens where it doesn't run
abbrev pub Delivers : KeyedFn → ServerPart → (taken : Option (List FrameText)) → FrameText → Delivered → ServerPart → Type 0
Delivers f old None frame delivered new = (delivered ≡ Nothing) × (new ≡ old)
Delivers f old (Some taken) frame delivered new = Takes old taken frame delivered new ⊎ Stays f old taken frame delivered new

-- a server that runs is stopped before it is started
abbrev pub halted : ServerPart → ServerPart
halted part = record part { taken = None; stop = stop_before part.taken part.stop }

-- a start that ends so
abbrev pub starting : ServerPart → (calls : ℕ) → End → ServerPart
starting part calls (Made there) =
    record { disk = left there part.disk; taken = Some (left there part.disk).records; stop = stop_behind calls (Made there) (stop_before part.taken part.stop) }
starting part calls (Crashes there) = record { disk = left there part.disk; taken = None; stop = None }
starting part calls Lacks = record part { taken = None; stop = stop_before part.taken part.stop }
starting part calls Breaks = record part { taken = None; stop = stop_behind calls Breaks (stop_before part.taken part.stop) }

abbrev pub IsEndOf : End → Result (Unit {0}) Unstarted → Type 0
IsEndOf (Made there) result = result ≡ Ok tt
IsEndOf (Crashes there) result = result ≡ Err unstarted.Stopped
IsEndOf Lacks result = ⊥
IsEndOf Breaks result = result ≡ Err unstarted.Broken

-- the server was started, or it wasn't
pub record Starts (old : ServerPart) (result : Result (Unit {0}) Unstarted) (new : ServerPart) : Type 0 where
  pub calls : ℕ
  pub end : End
  pub ends : EndsCalling calls end (stop_before old.taken old.stop)
  pub result_is : IsEndOf end result
  pub is : new ≡ starting old calls end

-- a stop now, if the number of the call is 0, and else inside that call; what is in doubt is there after it, or it isn't
abbrev pub stopping : ServerPart → (call pick : ℕ) → (there : Bool) → ServerPart
stopping part zero pick there = record { disk = left there part.disk; taken = None; stop = None }
stopping part (suc call) pick there = record part { stop = Some (record { call = suc call; pick = pick }) }

-- a stop is what is left of one after the calls that were made of the disk since
abbrev pub IsLeftOf : (before : MemDisk) → Option code.Stop → (after : MemDisk) → Option code.Stop → Type 0
IsLeftOf before stop after now = stop_in now ≡ later (next_call_of after - next_call_of before) (stop_in stop)

-- so it is of a server that replied, or that a call of its disk failed without a stop; if it has stopped, no store is there, and without
-- memory it stays
abbrev pub IsCountedBy : Delivered → Option StoreView → (before : MemDisk) → Option code.Stop → (after : MemDisk) → Option code.Stop → Type 0
IsCountedBy Nothing store before stop after now = Unit {0}
IsCountedBy (Replied kept) store before stop after now = IsLeftOf before stop after now
IsCountedBy Stopped store before stop after now = store ≡ None
IsCountedBy NoMemory store before stop after now = IsSome store
IsCountedBy Broken store before stop after now = IsLeftOf before stop after now

-- the replies can be written
abbrev pub CanDeliver : Delivered → Type 0
CanDeliver (Replied kept) = CanWrite kept
CanDeliver other = Unit {0}
