-- The opening of a session: Hello is answered by the number of the update that the server expects, one of those that are possible. And the traffic
-- when it isn't opened.
use Rattle.std.specs.Prelude.{◌≡◌, ◌⊎◌, ◌≤◌, ◌<◌, ◌^◌, ℕ, List, [], ◌∷◌, map, take}
use Rattle.sse_frames.specs.Exchange.{greeting}
use Rattle.sse_frames.specs.Frames.{Hello, frame_bytes}
use Rattle.sse_frames.specs.Replies as reply
use Rattle.sse_frames.specs.Replies.{ReplyText, Next, InReplies, reply_bytes}
use Rattle.def_link_events.specs.Events.{Event, Sent, Received}
use Rattle.sse_script.specs.Shown.{Cause, LinkFault, NoMemory, Clash, PeerElsewhere, BadReply}
use Rattle.def_script_meaning.specs.Exchange.{Told, Adds, as_event, bare}

-- the greeting passed: the server expects an update whose number is from low to high
pub record Greets (low high : ℕ) (old new : Told) : Type 0 where
  pub next : ℕ
  pub least : low ≤ next
  pub most : next ≤ high
  pub events : List Event
  pub adds : Adds old new events
  pub each : map bare events ≡ map as_event (greeting next)

-- a reply to Hello that says what the server expects, or why it doesn't say it
abbrev pub AnswersHello : ReplyText → Type 0
AnswersHello (Next q) = Unit {0}
AnswersHello (reply.Clash what place) = Unit {0}
AnswersHello reply.NoMemory = Unit {0}
AnswersHello reply.StoreFault = Unit {0}
AnswersHello _ = ⊥

-- the server expects an update whose number isn't from low to high
pub record IsElsewhere (low high next : ℕ) (answer : List ℕ) : Type 0 where
  pub outside : (next < low) ⊎ (high < next)
  pub fits : next < 2 ^ 32
  pub replied : answer ≡ reply_bytes (Next next)

-- it is none of these replies, and these are its first bytes
pub record IsNoAnswer (answer : List ℕ) (start : List ℕ) : Type 0 where
  pub none : (r : ReplyText) → InReplies r → AnswersHello r → answer ≡ reply_bytes r → ⊥
  pub shown : start ≡ take 16 answer

-- the cause for which a run stops at this reply to Hello
abbrev pub ShowsInAnswer : (low high : ℕ) → (answer : List ℕ) → Cause → Type 0
ShowsInAnswer low high answer LinkFault = answer ≡ reply_bytes reply.StoreFault
ShowsInAnswer low high answer NoMemory = answer ≡ reply_bytes reply.NoMemory
ShowsInAnswer low high answer (Clash what place) = answer ≡ reply_bytes (reply.Clash what place)
ShowsInAnswer low high answer (PeerElsewhere least most next) = (least ≡ low) × (most ≡ high) × IsElsewhere low high next answer
ShowsInAnswer low high answer (BadReply start) = IsNoAnswer answer start
ShowsInAnswer _ _ _ _ = ⊥

-- a run stopped before a session was opened, and this passed: nothing or Hello alone, or a reply too, in which the cause shows
abbrev pub IsTurned : (low high : ℕ) → List Event → Cause → Type 0
IsTurned low high [] cause = (cause ≡ LinkFault) ⊎ (cause ≡ NoMemory)
IsTurned low high (Sent bytes mark ∷ []) cause = (bytes ≡ frame_bytes Hello) × ((cause ≡ LinkFault) ⊎ (cause ≡ NoMemory))
IsTurned low high (Sent bytes mark ∷ Received answer ∷ []) cause = (bytes ≡ frame_bytes Hello) × ShowsInAnswer low high answer cause
IsTurned _ _ _ _ = ⊥

-- at most a part of the greeting passed, before a run stopped for this cause
pub record TurnsAway (low high : ℕ) (old new : Told) (cause : Cause) : Type 0 where
  pub events : List Event
  pub adds : Adds old new events
  pub turned : IsTurned low high events cause
