-- How a store ends at an update frame, without a stop.
use Rattle.std.specs.Prelude.{◌≡◌, List, [], ◌∷◌, ◌++◌, IsSome, Some}
use Rattle.outside_memory_disk.specs.declared.mem_disk.MemDisk.{MemDisk}
use Rattle.sse_frames.specs.FrameViews.{reply_view}
use Rattle.sse_frames.specs.Frames.{FrameText, update_number}
use Rattle.sse_frames.specs.Replies.{InReplies}
use Rattle.sse_frames.specs.Replies as replies
use Rattle.sse_frames.specs.Sizes.{HasReplySizes}
use Rattle.sse_journal.specs.JournalView.{broken_by}
use Rattle.server_core.specs.Refusal.{refusal}
use Rattle.server_core.specs.State.{at_first}
use Rattle.sse_server.specs.StoreView.{StoreView}
use Rattle.sse_server.specs.Taken.{IsTaken, taken_all}
use Rattle.world_server.specs.Replies.{IsNoPage}
use Rattle.world_server.specs.Serving.{Serves}
use Rattle.world_server.specs.declared.update.Ended.{Ended}
use Rattle.world_server.specs.declared.update.Ended.TheVariants.{Took, Refused, NoMemory, Failed}

-- a store that took these frames ended so at one more
abbrev pub IsEnded : List FrameText → FrameText → Ended → StoreView → MemDisk → Type 0
IsEnded frames frame (Took q) store disk = IsTaken (taken_all at_first frames) frame × (update_number frame ≡ Some q) × InReplies (replies.Took q) × Serves (frames ++ frame ∷ []) store disk
IsEnded frames frame (Refused reply) store disk =
    (refusal (taken_all at_first frames) frame ≡ Some (reply_view reply)) × InReplies (reply_view reply) × HasReplySizes reply × IsNoPage (reply_view reply) × Serves frames store disk
IsEnded frames frame NoMemory store disk = Serves frames store disk
IsEnded frames frame Failed store disk = IsTaken (taken_all at_first frames) frame × IsSome (broken_by store.journal)

-- it was refused
abbrev pub IsRefused : Ended → Type 0
IsRefused (Refused reply) = Unit {0}
IsRefused other = ⊥
