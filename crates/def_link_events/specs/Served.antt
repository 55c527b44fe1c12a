-- The traffic of an honest link: for each frame the server's step, and its replies in order.
use Rattle.std.specs.Prelude.{◌≡◌, ◌⊎◌, ℕ, List, [], ◌∷◌, ◌++◌, IsSome, map}
use Rattle.sse_frames.specs.Frames.{FrameText, IsFrame, update_number}
use Rattle.sse_frames.specs.Replies.{ReplyText, NoMemory, StoreFault, reply_bytes}
use Rattle.keyed_fn.specs.KeyedFn.{KeyedFn}
use Rattle.server_core.specs.State.{ServerState, at_first}
use Rattle.server_core.specs.Step.{step}
use Rattle.def_link_events.specs.Events.{Event, Sent, Received}
use Rattle.def_link_events.specs.declared.mark.Mark.{Mark}
use Rattle.def_link_events.specs.declared.mark.Mark.TheVariants.{Unknown, Stepped, LackedMemory, StoreFailed}

-- a server, and the bytes of each reply that waits
pub record Served : Type 0 where
  pub state : ServerState
  pub due : List (List ℕ)

-- a server of which no reply waits
abbrev pub idle : ServerState → Served
idle state = record { state = state; due = [] }

-- a server that has taken nothing
abbrev pub at_start : Served
at_start = idle at_first

-- the frame made this state and had these replies, which are the server's step
pub record IsStep (f : KeyedFn) (before : ServerState) (frame : FrameText) (after : ServerState) (replies : List (List ℕ)) : Type 0 where
  pub state : after ≡ (step f before frame).0
  pub replies_are : replies ≡ map reply_bytes (step f before frame).1

-- in place of its step the server couldn't keep an update: it said why, and stayed as it was
pub record CannotKeep (why : ReplyText) (before : ServerState) (frame : FrameText) (after : ServerState) (replies : List (List ℕ)) : Type 0 where
  pub update : IsSome (update_number frame)
  pub state : after ≡ before
  pub replies_are : replies ≡ reply_bytes why ∷ []

-- it was out of memory
abbrev pub LacksMemory : (before : ServerState) (frame : FrameText) (after : ServerState) (replies : List (List ℕ)) → Type 0
LacksMemory before frame after replies = CannotKeep NoMemory before frame after replies

-- its disk failed
abbrev pub FailsToStore : (before : ServerState) (frame : FrameText) (after : ServerState) (replies : List (List ℕ)) → Type 0
FailsToStore before frame after replies = CannotKeep StoreFault before frame after replies

-- the frame was answered as its mark says
abbrev pub Answers : KeyedFn → ServerState → FrameText → Mark → ServerState → List (List ℕ) → Type 0
Answers f before frame Unknown after replies = IsStep f before frame after replies ⊎ (LacksMemory before frame after replies ⊎ FailsToStore before frame after replies)
Answers f before frame Stepped after replies = IsStep f before frame after replies
Answers f before frame LackedMemory after replies = LacksMemory before frame after replies
Answers f before frame StoreFailed after replies = FailsToStore before frame after replies

-- these bytes are a frame, which was answered as its mark says
pub record Serves (f : KeyedFn) (before : ServerState) (bytes : List ℕ) (mark : Mark) (after : Served) : Type 0 where
  pub sent : IsFrame bytes
  pub answered : Answers f before sent.frame mark after.state after.due

-- a call that fails drops the replies that wait, without an event
abbrev pub AreKept : List (List ℕ) → List (List ℕ) → Type 0
AreKept due left = (left ≡ due) ⊎ (left ≡ [])

-- these events lead from one server with its waiting replies to another: a frame drops the replies that waited before
-- it and brings its own, and what is received is the first of those that wait
abbrev pub IsServed : KeyedFn → Served → List Event → Served → Type 0
IsServed f start [] end = (start.state ≡ end.state) × AreKept start.due end.due
IsServed f start (Sent bytes mark ∷ later) end = (now : Served) × Serves f start.state bytes mark now × IsServed f now later end
IsServed f start (Received bytes ∷ later) end =
    (rest : List (List ℕ)) × (start.due ≡ bytes ∷ rest) × IsServed f (record { state = start.state; due = rest }) later end

-- these events are an honest transcript from a server of which no reply waits, and leave it in this state
abbrev pub IsHonest : KeyedFn → ServerState → List Event → ServerState → Type 0
IsHonest f before events after = IsServed f (idle before) events (idle after)

-- of the replies to a frame these were received, and the others wait
abbrev pub IsAnswered : KeyedFn → ServerState → FrameText → Mark → List (List ℕ) → Served → Type 0
IsAnswered f before frame mark replies after = Answers f before frame mark after.state (replies ++ after.due)
