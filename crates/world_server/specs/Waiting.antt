-- What passes between a client and the server of a world: messages as frames, and the replies that wait.
use Rattle.std.specs.Prelude.{◌≡◌, ◌⊎◌, ℕ, ◌+◌, ◌==◌, true, false, List, [], ◌∷◌, length, IsSome, Option, Some, Result, Ok, Err}
use Rattle.keyed_fn.specs.KeyedFn.{KeyedFn}
use Rattle.sse_frames.specs.Frames as frames
use Rattle.sse_frames.specs.Frames.{FrameText, InGrammar, SearchFrame, update_number, frame_bytes}
use Rattle.sse_frames.specs.Replies as replies
use Rattle.sse_frames.specs.Replies.{ReplyText}
use Rattle.sse_frames.specs.SentParts.{pages}
use Rattle.server_core.specs.State.{at_first}
use Rattle.server_core.specs.Step.{step}
use Rattle.sse_server.specs.Taken.{IsTaken, taken_all}
use Rattle.world_disks.specs.declared.started.Unstarted.{Unstarted}
use Rattle.world_disks.specs.declared.started.Unstarted.TheVariants as unstarted
use Rattle.world_model.specs.Rules.{Rules}
use Rattle.world_model.specs.World.{Message, Hello, Update, Search, Reply, Next, Took, Shown, Refused, World}
use Rattle.world_model.specs.Events as model
use Rattle.world_model.specs.Events.{Outcome, waiting_with}
use Rattle.world_server.specs.Replies.{replies_in}
use Rattle.world_server.specs.Sides.{ServerPart}
use Rattle.world_server.specs.declared.replies.Replies.{Replies}
use Rattle.world_server.specs.declared.server_side.Delivered.{Delivered}
use Rattle.world_server.specs.declared.server_side.Delivered.TheVariants as delivered

-- the frame of a message
abbrev pub frame_of : Message FrameText → FrameText
frame_of Hello = frames.Hello
frame_of (Update frame) = frame
frame_of (Search frame) = frame

-- which is one of the grammar, and of the message's kind
abbrev pub IsOfKind : Message FrameText → Type 0
IsOfKind Hello = Unit {0}
IsOfKind (Update frame) = IsSome (update_number frame)
IsOfKind (Search frame) = (token : List ℕ) × (frame ≡ SearchFrame token)

-- these bytes were sent as this message
pub record IsMessage (message : Message FrameText) (bytes : List ℕ) : Type 0 where
  pub kind : IsOfKind message
  pub grammar : InGrammar (frame_of message)
  pub spelled : bytes ≡ frame_bytes (frame_of message)

-- a reply that refuses an update frame
abbrev pub IsRefusal : ReplyText → Type 0
IsRefusal (replies.Number q) = Unit {0}
IsRefusal (replies.Clash what place) = Unit {0}
IsRefusal replies.OutOfPlace = Unit {0}
IsRefusal reply = ⊥

-- replies to a search: the pages of an answer, or the cause why there is none
abbrev pub IsOfSearch : List ReplyText → Type 0
IsOfSearch all = ((ids : List ℕ) × (all ≡ pages ids)) ⊎ (all ≡ replies.BadList ∷ []) ⊎ (all ≡ replies.OutOfPlace ∷ [])

-- what the server replied is this reply of the model
abbrev pub IsKept : Reply (List ReplyText) → Replies → Type 0
IsKept (Next n) kept = replies_in kept ≡ replies.Next n ∷ []
IsKept (Took n) kept = replies_in kept ≡ replies.Took n ∷ []
IsKept (Shown all) kept = (replies_in kept ≡ all) × IsOfSearch all
IsKept Refused kept = (reply : ReplyText) × (replies_in kept ≡ reply ∷ []) × IsRefusal reply

-- what a frame comes to that came to the server
abbrev pub outcome_of : Delivered → Outcome
outcome_of delivered.Nothing = model.Nothing
outcome_of (delivered.Replied kept) = model.Happened
outcome_of delivered.Stopped = model.Happened
outcome_of delivered.NoMemory = model.NoMemory
outcome_of delivered.Broken = model.NoMemory

module _ {C W : Type 0} where
  abbrev pub server_part : World C FrameText W (List ReplyText) → ServerPart
  server_part w = record { disk = w.server_disk; taken = w.server; stop = w.server_stop }

  abbrev pub with_server : World C FrameText W (List ReplyText) → ServerPart → Option (Reply (List ReplyText)) → World C FrameText W (List ReplyText)
  with_server w part waiting = record w { server_disk = part.disk; server = part.taken; server_stop = part.stop; waiting = waiting }

module _ {C W : Type 0} (f : KeyedFn) (rules : Rules C FrameText W (List ReplyText)) where
  -- the rules say of a server what the store's server does
  pub record AreServerRules : Type 0 where
    pub takes : (taken : List FrameText) (frame : FrameText) → IsTaken (taken_all at_first taken) frame → rules.takes taken frame ≡ true
    pub refuses : (taken : List FrameText) (frame : FrameText) → InGrammar frame → (IsTaken (taken_all at_first taken) frame → ⊥) → rules.takes taken frame ≡ false
    pub number : (frame : FrameText) (q : ℕ) → update_number frame ≡ Some q → rules.number frame ≡ q
    pub answer : (taken : List FrameText) (frame : FrameText) → rules.answer taken frame ≡ (step f (taken_all at_first taken) frame).1

  -- what waits for the client once the message at this place came to the server: a reply takes the place of nothing
  abbrev pub Waits : World C FrameText W (List ReplyText) → (place : ℕ) → Delivered → Option (Reply (List ReplyText)) → Type 0
  Waits w place (delivered.Replied kept) waiting =
      (reply : Reply (List ReplyText)) × IsKept reply kept × (waiting ≡ waiting_with rules reply (place + 1 == length w.sent) w.client w.waiting)
  Waits w place other waiting = waiting ≡ w.waiting

-- what a start comes to
abbrev pub outcome_of_start : Result (Unit {0}) Unstarted → Outcome
outcome_of_start (Ok done) = model.Happened
outcome_of_start (Err unstarted.Stopped) = model.Happened
outcome_of_start (Err unstarted.Broken) = model.NoMemory
