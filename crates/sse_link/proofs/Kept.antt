-- What a loopback keeps with one event more, and where a call is cut.
use Rattle.std.proofs.Common.{◌≡◌, ℕ, Bool, true, false, List, [], ◌∷◌, ◌++◌, map, Option, Some, sym, subst}
use Rattle.std.specs.Prelude.{if◌then◌else◌}
use Rattle.std.specs.Option.{IsSomeAnd}
use Rattle.keyed_fn.specs.KeyedFn.{KeyedFn}
use Rattle.sse_frames.specs.Replies.{reply_bytes}
use Rattle.sse_frames.specs.declared.reply.Reply.TheVariants as replies
use Rattle.server_core.specs.State.{ServerState}
use Rattle.sse_link.specs.declared.due.Due.{Due}
use Rattle.sse_link.specs.declared.due.Due.TheVariants as dues
use Rattle.sse_link.specs.declared.fail.Fail.{Fail}
use Rattle.def_link_events.specs.declared.mark.Mark.{Mark}
use Rattle.sse_link.specs.Due.{waiting, IsDue}
use Rattle.def_link_events.specs.Events.{Event, Sent, Received, IsKnown, AreKnown}
use Rattle.sse_link.specs.FailingLoopback.{failure_at, FailsSend}
use Rattle.sse_link.specs.Marks.{mark_of}
use Rattle.def_link_events.specs.Served.{Served, Answers, IsServed, idle}
use Rattle.sse_frames.specs.Frames.{IsFrame}
use Rattle.sse_link.specs.Steady.{IsTelling}
use Rattle.sse_link.specs.LinkStates.{LinkState, IsSent, IsLost}
use Rattle.def_link_events.proofs.Honest.{IsServed-sent, IsServed-received, IsServed-dropped}

known_sent : (events : List Event) (bytes : List ℕ) (mark : Mark) → AreKnown events → IsKnown mark → AreKnown (events ++ Sent bytes mark ∷ [])
known_sent [] bytes mark known one = (one, tt)
known_sent (Sent other mark' ∷ events) bytes mark known one = (known.0, known_sent events bytes mark known.1 one)
known_sent (Received reply ∷ events) bytes mark known one = known_sent events bytes mark known one

known_received : (events : List Event) (reply : List ℕ) → AreKnown events → AreKnown (events ++ Received reply ∷ [])
known_received [] reply known = tt
known_received (Sent other mark ∷ events) reply known = (known.0, known_received events reply known.1)
known_received (Received other ∷ events) reply known = known_received events reply known

-- replies always say how a frame was answered
pub IsKnown-mark_of : (due : Due) → IsKnown (mark_of due)
IsKnown-mark_of (dues.Single replies.NoMemory) = tt
IsKnown-mark_of _ = tt

-- a frame that was answered
pub steady_sent : (f : KeyedFn) (events : List Event) (began before after : ServerState) (due due' : Due) (page page' bytes : List ℕ) → IsTelling f events began before due page → (sent : IsFrame bytes) → IsDue f after due' page'
    → Answers f before sent.frame (mark_of due') after (map reply_bytes (waiting f after due' page')) → IsTelling f (events ++ Sent bytes (mark_of due') ∷ []) began after due' page'
steady_sent f events began before after due due' page page' bytes steady sent writable answered = record {
  writable = writable;
  known = known_sent events bytes (mark_of due') steady.known (IsKnown-mark_of due');
  honest = IsServed-sent f (idle began) (record { state = before; due = map reply_bytes (waiting f before due page) }) (record { state = after; due = map reply_bytes (waiting f after due' page') }) events bytes (mark_of due') steady.honest (record { sent = sent; answered = answered });
}

-- a reply that was received
pub steady_received : (f : KeyedFn) (events : List Event) (began state : ServerState) (due due' : Due) (page page' bytes : List ℕ) → IsTelling f events began state due page → IsDue f state due' page'
    → map reply_bytes (waiting f state due page) ≡ bytes ∷ map reply_bytes (waiting f state due' page') → IsTelling f (events ++ Received bytes ∷ []) began state due' page'
steady_received f events began state due due' page page' bytes steady writable first = record {
  writable = writable;
  known = known_received events bytes steady.known;
  honest = IsServed-received f (idle began) (record { state = state; due = map reply_bytes (waiting f state due page) }) events bytes _ steady.honest first;
}

-- where a link is cut, the replies that wait are dropped
pub cut_served : (f : KeyedFn) (start end : Served) (events : List Event) (cut : Bool) → IsServed f start events end → IsServed f start events (record { state = end.state; due = (if cut then [] else end.due) })
cut_served f start end events true is = IsServed-dropped f start end events is
cut_served f start end events false is = is

-- it doesn't matter for a frame which replies waited before it
pub sent_behind : (f : KeyedFn) (old new : LinkState) (due : List (List ℕ)) (bytes : List ℕ) → IsSent f old new bytes → IsSent f (record old { due = due }) new bytes
sent_behind f old new due bytes sent = record { mark = sent.mark; known = sent.known; events = sent.events; serves = sent.serves; untouched = sent.untouched; began = sent.began; began_file = sent.began_file }

-- a send that is listed as one that fails after its work
pub lost_as_listed : (f : KeyedFn) (fails : List Fail) (call : ℕ) (old new : LinkState) (bytes : List ℕ) → failure_at fails call ≡ Some true → IsLost f old new bytes
    → IsSomeAnd (failure_at fails call) (λ delivered. FailsSend f delivered old new bytes)
lost_as_listed f fails call old new bytes listed lost = subst (λ (o : Option Bool). IsSomeAnd o (λ delivered. FailsSend f delivered old new bytes)) (sym listed) lost
