-- The traffic over a link after the greeting, when frames have the replies that they must have, and when they don't.
use Rattle.std.specs.Prelude.{◌≡◌, ◌≢◌, ◌⊎◌, ◌≤◌, ◌^◌, ℕ, List, [], ◌∷◌, ◌++◌, length, map, take, drop, All, Option, option_map}
use Rattle.sse_frames.specs.Exchange as texts
use Rattle.sse_frames.specs.Exchange.{Asked, ForAnswer, asked, expected, exchange, searches}
use Rattle.sse_frames.specs.Frames.{FrameText, frame_bytes}
use Rattle.sse_frames.specs.Replies as reply
use Rattle.sse_frames.specs.Replies.{ReplyText, InReplies, IsIdentifier, reply_bytes}
use Rattle.def_link_events.specs.declared.mark.Mark.TheVariants.{Unknown}
use Rattle.def_link_events.specs.Events.{Event, Sent, Received}
use Rattle.sse_script.specs.Shown.{Cause, LinkFault, NoMemory, Clash, BadReply}

-- a frame or a reply as the event that it is, with no mark
abbrev pub as_event : texts.Passed → Event
as_event (texts.Sent frame) = Sent (frame_bytes frame) Unknown
as_event (texts.Received reply) = Received (reply_bytes reply)

-- an event without its mark
abbrev pub bare : Event → Event
bare (Sent bytes mark) = Sent bytes Unknown
bare (Received bytes) = Received bytes

-- the frames that were sent
abbrev pub sent_in : List Event → List (List ℕ)
sent_in [] = []
sent_in (Sent bytes mark ∷ events) = bytes ∷ sent_in events
sent_in (Received bytes ∷ events) = sent_in events

-- what a link tells
abbrev pub Told : Type 0
Told = Option (List Event)

-- these were added to what was told, where it is told
abbrev pub Adds : {A : Type 0} → Option (List A) → Option (List A) → List A → Type 0
Adds old new more = new ≡ option_map (λ told. told ++ more) old

-- these events are the exchange of these frames, the searches among them with these answers
pub record AreExchanged (answers : List (List ℕ)) (frames : List FrameText) (events : List Event) : Type 0 where
  pub ids : All (All IsIdentifier) answers
  pub count : length answers ≡ searches frames
  pub each : map bare events ≡ map as_event (exchange answers frames)

-- Where it is cut.

-- these replies, at most 2^20, are the first of those that are to come, for some answer
pub record IsAllowed (asks : Asked) (replies : List (List ℕ)) : Type 0 where
  pub ids : List ℕ
  pub each : All IsIdentifier ids
  pub few : length replies ≤ 2 ^ 20
  pub rest : List (List ℕ)
  pub first : replies ++ rest ≡ map reply_bytes (expected ids asks)

-- and more are to come
pub record IsAwaiting (asks : Asked) (replies : List (List ℕ)) : Type 0 where
  pub allowed : IsAllowed asks replies
  pub more : allowed.rest ≢ []

-- more were to come, and the last that came is this one
pub record EndsWith (asks : Asked) (replies : List (List ℕ)) (last : List ℕ) : Type 0 where
  pub earlier : List (List ℕ)
  pub are : replies ≡ earlier ++ last ∷ []
  pub awaiting : IsAwaiting asks earlier

-- a reply that says why a frame isn't answered as expected
abbrev pub IsNotice : Asked → ReplyText → Type 0
IsNotice asks (reply.Clash what place) = Unit {0}
IsNotice asks reply.NoMemory = Unit {0}
IsNotice asks reply.StoreFault = Unit {0}
IsNotice _ _ = ⊥

-- the last of these replies isn't allowed, and is no notice; these are its first bytes
pub record IsBadReply (asks : Asked) (replies : List (List ℕ)) (start : List ℕ) : Type 0 where
  pub reply : List ℕ
  pub ends : EndsWith asks replies reply
  pub shown : start ≡ take 16 reply
  pub not_allowed : IsAllowed asks replies → ⊥
  pub no_notice : (notice : ReplyText) → InReplies notice → IsNotice asks notice → reply ≡ reply_bytes notice → ⊥

-- the replies after which the client can run out of memory: those to a search, the last page too, since it lists the identifiers of each;
-- and those to an update before its acknowledgement, which takes no memory
abbrev pub IsOutOfMemory : Asked → List (List ℕ) → Type 0
IsOutOfMemory ForAnswer replies = IsAllowed ForAnswer replies
IsOutOfMemory asks replies = IsAwaiting asks replies

-- the cause for which a run stops after these replies to a frame
abbrev pub ShowsInReplies : Asked → List (List ℕ) → Cause → Type 0
ShowsInReplies asks replies LinkFault = IsAwaiting asks replies ⊎ EndsWith asks replies (reply_bytes reply.StoreFault)
ShowsInReplies asks replies NoMemory = IsOutOfMemory asks replies ⊎ EndsWith asks replies (reply_bytes reply.NoMemory)
ShowsInReplies asks replies (Clash what place) = EndsWith asks replies (reply_bytes (reply.Clash what place))
ShowsInReplies asks replies (BadReply start) = IsBadReply asks replies start
ShowsInReplies _ _ _ = ⊥

-- a frame was sent, and these replies to it received, or nothing passed at all, before a run stopped for this cause
abbrev pub IsPart : FrameText → List Event → Cause → Type 0
IsPart frame [] cause = (cause ≡ LinkFault) ⊎ (cause ≡ NoMemory)
IsPart frame (Sent bytes mark ∷ events) cause =
    (bytes ≡ frame_bytes frame) × ((replies : List (List ℕ)) × (events ≡ map Received replies) × ShowsInReplies (asked frame) replies cause)
IsPart frame (Received bytes ∷ events) cause = ⊥

-- of the first of these frames, which there is, at most a part was exchanged
abbrev pub IsCut : List FrameText → List Event → Cause → Type 0
IsCut [] events cause = ⊥
IsCut (frame ∷ frames) events cause = IsPart frame events cause

-- the first n of these frames, and not all, were exchanged, and of the next one at most a part, before a run stopped for this cause
pub record AreCut (frames : List FrameText) (events : List Event) (cause : Cause) : Type 0 where
  pub n : ℕ
  pub answers : List (List ℕ)
  pub before : List Event
  pub cut : List Event
  pub parts : events ≡ before ++ cut
  pub exchanged : AreExchanged answers (take n frames) before
  pub one_more : IsCut (drop n frames) cut cause
