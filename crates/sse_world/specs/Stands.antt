-- What the parts of a world are to the model's.
use Rattle.std.specs.Prelude.{◌≡◌, ℕ, Bool, false, ◌&&◌, List, [], ◌∷◌, is_none, Option, None, Some, if◌then◌else◌}
use Rattle.sse_frames.specs.Frames.{FrameText}
use Rattle.sse_frames.specs.Replies.{ReplyText}
use Rattle.world_model.specs.World.{Client, Message, Reply}
use Rattle.world_model.specs.Events as model
use Rattle.world_rules.specs.Changes.{Change}
use Rattle.world_rules.specs.Promises.{StoreWorld}
use Rattle.outside_memory_disk.specs.declared.mem_disk.MemDisk.{MemDisk}
use Rattle.sse_server.specs.StoreView.{StoreView}
use Rattle.world_disks.specs.declared.stop.Stop as code
use Rattle.world_server.specs.Replies.{CanWrite}
use Rattle.world_server.specs.Sides.{IsLeftOf}
use Rattle.world_server.specs.Waiting.{IsMessage, IsKept, server_part, with_server}
use Rattle.world_server.specs.declared.replies.Replies.{Replies}
use Rattle.sse_world.specs.declared.event.Outcome.{Outcome}
use Rattle.sse_world.specs.declared.event.Outcome.TheVariants.{Done, Nothing, NoMemory}

-- these bytes were sent as these messages, in order
abbrev pub AreMessages : List (Message FrameText) → List (List ℕ) → Type 0
AreMessages [] [] = Unit {0}
AreMessages [] (bytes ∷ sent) = ⊥
AreMessages (message ∷ messages) [] = ⊥
AreMessages (message ∷ messages) (bytes ∷ sent) = IsMessage message bytes × AreMessages messages sent

-- this reply waits, and can be written
abbrev pub IsWaiting : Option (Reply (List ReplyText)) → Option Replies → Type 0
IsWaiting None None = Unit {0}
IsWaiting None (Some replies) = ⊥
IsWaiting (Some reply) None = ⊥
IsWaiting (Some reply) (Some replies) = IsKept reply replies × CanWrite replies

-- what was sent, and what waits
pub record IsLink (w : StoreWorld) (sent : List (List ℕ)) (waiting : Option Replies) : Type 0 where
  pub messages : AreMessages w.sent sent
  pub waits : IsWaiting w.waiting waiting

-- whether a client waits for the answer to the last frame that it sent
abbrev pub waits_in : Option (Client Change (List ℕ)) → Bool
waits_in None = false
waits_in (Some r) = r.waits

-- replies take the place of nothing, if they are wanted
abbrev pub kept_reply : Option Replies → Replies → (wanted : Bool) → Option Replies
kept_reply waiting replies wanted = if wanted && is_none waiting then Some replies else waiting

-- the model's outcome
abbrev pub outcome_in : Outcome → model.Outcome
outcome_in Done = model.Happened
outcome_in Nothing = model.Nothing
outcome_in NoMemory = model.NoMemory

-- from one world to the other nothing has changed but the server and the reply that waits
abbrev pub IsServersWork : (w v : StoreWorld) → Type 0
IsServersWork w v = v ≡ with_server w (server_part v) v.waiting

-- A server that runs after a frame has what is left of its stop after the calls of its disk; so it is too if it ran out of memory inside
-- one, and runs no more.
abbrev pub IsCountedIn : Outcome → Option StoreView → (before : MemDisk) → Option code.Stop → (after : MemDisk) → Option code.Stop → Type 0
IsCountedIn Done (Some store) before stop after now = IsLeftOf before stop after now
IsCountedIn NoMemory None before stop after now = IsLeftOf before stop after now
IsCountedIn _ store before stop after now = Unit {0}
