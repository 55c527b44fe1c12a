-- Laws of honest links: what is served joins and splits anywhere, and a frame that a server handles is served.
use Rattle.std.proofs.Common.{◌≡◌, ◌⊎◌, inl, inr, ℕ, List, [], ◌∷◌, ◌++◌, map, refl, sym, ap, ◌∙◌, subst}
use Rattle.keyed_fn.specs.KeyedFn.{KeyedFn}
use Rattle.sse_frames.specs.Frames.{FrameText, InGrammar, frame_bytes}
use Rattle.sse_frames.specs.Replies.{reply_bytes}
use Rattle.server_core.specs.State.{ServerState}
use Rattle.server_core.specs.Step.{step}
use Rattle.sse_frames.proofs.FrameBytesLaws.{one_frame}
use Rattle.def_link_events.specs.Events.{Event, Sent, Received, IsKnown, AreKnown, BeginsWithFrame}
use Rattle.def_link_events.specs.Served.{Served, idle, IsStep, LacksMemory, FailsToStore, Answers, Serves, AreKept, IsServed, IsHonest, IsAnswered}
use Rattle.def_link_events.specs.declared.mark.Mark.{Mark}
use Rattle.def_link_events.specs.declared.mark.Mark.TheVariants.{Unknown, Stepped, LackedMemory, StoreFailed}

-- Joining and splitting.

-- what is served from a server is served from one with the same state of which as many replies wait, or more
pub IsServed-from : (f : KeyedFn) (start mid end : Served) (events : List Event) → start.state ≡ mid.state → AreKept start.due mid.due → IsServed f mid events end → IsServed f start events end
IsServed-from f start mid end [] same kept served = (same ∙ served.0, after_both kept served.1)
  where
    after_both : AreKept start.due mid.due → AreKept mid.due end.due → AreKept start.due end.due
    after_both first then = elim then [ inl e ↦ elim first [ inl d ↦ inl (e ∙ d) | inr d ↦ inr (e ∙ d) ] | inr e ↦ inr e ]
IsServed-from f start mid end (Sent bytes mark ∷ events) same kept served =
    (served.0, subst (λ s. Serves f s bytes mark served.0) (sym same) served.1, served.2)
IsServed-from f start mid end (Received bytes ∷ events) same kept served = (
  served.0,
  elim kept [ inl e ↦ sym e ∙ served.1 | inr e ↦ absurd (let none : bytes ∷ served.0 ≡ [] = sym served.1 ∙ e in cc) ],
  subst (λ s. IsServed f (record { state = s; due = served.0 }) events end) (sym same) served.2,
)

-- what leads from one to another, and on from there to a third, leads from the first to the third
pub IsServed-append : (f : KeyedFn) (start mid end : Served) (xs ys : List Event) → IsServed f start xs mid → IsServed f mid ys end → IsServed f start (xs ++ ys) end
IsServed-append f start mid end [] ys first then = IsServed-from f start mid end ys first.0 first.1 then
IsServed-append f start mid end (Sent bytes mark ∷ xs) ys first then = (first.0, first.1, IsServed-append f first.0 mid end xs ys first.2 then)
IsServed-append f start mid end (Received bytes ∷ xs) ys first then = (first.0, first.1, IsServed-append f _ mid end xs ys first.2 then)

-- and it passes through a second wherever it is cut
pub IsServed-split : (f : KeyedFn) (start end : Served) (xs ys : List Event) → IsServed f start (xs ++ ys) end → (mid : Served) × IsServed f start xs mid × IsServed f mid ys end
IsServed-split f start end [] ys all = (start, (refl, inl refl), all)
IsServed-split f start end (Sent bytes mark ∷ xs) ys all =
    let later = IsServed-split f all.0 end xs ys all.2 in
    (later.0, (all.0, all.1, later.1), later.2)
IsServed-split f start end (Received bytes ∷ xs) ys all =
    let later = IsServed-split f _ end xs ys all.2 in
    (later.0, (all.0, all.1, later.1), later.2)

-- the replies that wait at the end can be dropped
pub IsServed-dropped : (f : KeyedFn) (start end : Served) (events : List Event) → IsServed f start events end → IsServed f start events (idle end.state)
IsServed-dropped f start end [] served = (served.0, inr refl)
IsServed-dropped f start end (Sent bytes mark ∷ events) served = (served.0, served.1, IsServed-dropped f served.0 end events served.2)
IsServed-dropped f start end (Received bytes ∷ events) served = (served.0, served.1, IsServed-dropped f _ end events served.2)

-- what begins with a frame receives nothing of the replies that waited before it
pub IsServed-fresh : (f : KeyedFn) (start end : Served) (events : List Event) → BeginsWithFrame events → IsServed f start events end → IsHonest f start.state events end.state
IsServed-fresh f start end [] begins served = (served.0, inl refl)
IsServed-fresh f start end (Sent bytes mark ∷ events) begins served = (served.0, served.1, IsServed-dropped f served.0 end events served.2)
IsServed-fresh f start end (Received bytes ∷ events) begins served = elim begins [ ]

-- Promise P158 (inside): Honest transcripts join, split before any frame, and, if each frame's answer is marked, determine the state from which a later session continues.
-- honest transcripts join
pub IsHonest-append : (f : KeyedFn) (before mid after : ServerState) (xs ys : List Event) → IsHonest f before xs mid → IsHonest f mid ys after → IsHonest f before (xs ++ ys) after
IsHonest-append f before mid after xs ys first then = IsServed-append f (idle before) (idle mid) (idle after) xs ys first then

-- Promise P158, also here
-- and split before any frame
pub IsHonest-split : (f : KeyedFn) (before after : ServerState) (xs ys : List Event) → BeginsWithFrame ys → IsHonest f before (xs ++ ys) after
    → (mid : ServerState) × IsHonest f before xs mid × IsHonest f mid ys after
IsHonest-split f before after xs ys begins all =
    let parts = IsServed-split f (idle before) (idle after) xs ys all in
    (parts.0.state, IsServed-dropped f (idle before) parts.0 xs parts.1, IsServed-fresh f parts.0 (idle after) ys begins parts.2)

-- The state after events.

-- a frame of the grammar was answered as its mark says
pub Serves-frame : (f : KeyedFn) (before : ServerState) (frame : FrameText) (mark : Mark) (after : Served) → InGrammar frame → Serves f before (frame_bytes frame) mark after
    → Answers f before frame mark after.state after.due
Serves-frame f before frame mark after grammar serves =
    let same = (one_frame serves.sent.frame frame [] [] serves.sent.grammar grammar (ap (λ bytes. bytes ++ []) (sym serves.sent.spelled))).0 in
    subst (λ g. Answers f before g mark after.state after.due) same serves.answered

-- and makes one state, where the mark is known
one_state : (f : KeyedFn) (a b : ServerState) (frame : FrameText) (mark : Mark) (after after' : ServerState) (replies replies' : List (List ℕ)) → IsKnown mark → a ≡ b
    → Answers f a frame mark after replies → Answers f b frame mark after' replies' → after ≡ after'
one_state f a b frame Unknown after after' replies replies' known same one other = elim known [ ]
one_state f a b frame Stepped after after' replies replies' known same one other = one.state ∙ ap (λ s. (step f s frame).0) same ∙ sym other.state
one_state f a b frame LackedMemory after after' replies replies' known same one other = one.state ∙ same ∙ sym other.state
one_state f a b frame StoreFailed after after' replies replies' known same one other = one.state ∙ same ∙ sym other.state

-- Promise P158, also here
-- so the state after events with known marks is a function of them
pub IsServed-state : (f : KeyedFn) (start start' end end' : Served) (events : List Event) → AreKnown events → start.state ≡ start'.state → IsServed f start events end → IsServed f start' events end' → end.state ≡ end'.state
IsServed-state f start start' end end' [] known same one other = sym one.0 ∙ same ∙ other.0
IsServed-state f start start' end end' (Sent bytes mark ∷ events) known same one other =
    let first = one.1.sent in
    let second = Serves-frame f start'.state first.frame mark other.0 first.grammar (subst (λ bytes. Serves f start'.state bytes mark other.0) first.spelled other.1) in
    IsServed-state f one.0 other.0 end end' events known.1 (one_state f start.state start'.state first.frame mark _ _ _ _ known.0 same one.1.answered second) one.2 other.2
IsServed-state f start start' end end' (Received bytes ∷ events) known same one other =
    IsServed-state f (record { state = start.state; due = one.0 }) (record { state = start'.state; due = other.0 }) end end' events known same one.2 other.2

-- Promise P158, also here
-- a second session on a link is honest from the state in which the first one left it, also where replies were lost
pub IsHonest-resumed : (f : KeyedFn) (before mid after : ServerState) (past events : List Event) → AreKnown past → BeginsWithFrame events → IsHonest f before past mid → IsHonest f before (past ++ events) after
    → IsHonest f mid events after
IsHonest-resumed f before mid after past events known begins first all =
    let parts = IsHonest-split f before after past events begins all in
    subst (λ s. IsHonest f s events after) (IsServed-state f (idle before) (idle before) (idle parts.0) (idle mid) past known refl parts.1 first) parts.2

-- One more event.

-- one frame more
pub IsServed-sent : (f : KeyedFn) (start now later : Served) (events : List Event) (bytes : List ℕ) (mark : Mark) → IsServed f start events now → Serves f now.state bytes mark later → IsServed f start (events ++ Sent bytes mark ∷ []) later
IsServed-sent f start now later events bytes mark served serves = IsServed-append f start now later events _ served (later, serves, (refl, inl refl))

-- one reply more
pub IsServed-received : (f : KeyedFn) (start now : Served) (events : List Event) (bytes : List ℕ) (rest : List (List ℕ)) → IsServed f start events now → now.due ≡ bytes ∷ rest → IsServed f start (events ++ Received bytes ∷ []) (record { state = now.state; due = rest })
IsServed-received f start now events bytes rest served first = IsServed-append f start now _ events _ served (rest, first, (refl, inl refl))

-- whichever the mark, a frame was answered by the step, by out of memory or by a fault of the disk
pub Answers-either : (f : KeyedFn) (before : ServerState) (frame : FrameText) (mark : Mark) (after : ServerState) (replies : List (List ℕ)) → Answers f before frame mark after replies
    → IsStep f before frame after replies ⊎ (LacksMemory before frame after replies ⊎ FailsToStore before frame after replies)
Answers-either f before frame Unknown after replies answered = answered
Answers-either f before frame Stepped after replies answered = inl answered
Answers-either f before frame LackedMemory after replies answered = inr (inl answered)
Answers-either f before frame StoreFailed after replies answered = inr (inr answered)

-- what is served with a mark is served without it
pub Serves-unmarked : (f : KeyedFn) (before : ServerState) (bytes : List ℕ) (mark : Mark) (after : Served) → Serves f before bytes mark after → Serves f before bytes Unknown after
Serves-unmarked f before bytes mark after serves = record {
  sent = serves.sent;
  answered = Answers-either f before serves.sent.frame mark after.state after.due serves.answered;
}

-- a frame's step serves it
pub Serves-step : (f : KeyedFn) (s : ServerState) (frame : FrameText) → InGrammar frame
    → Serves f s (frame_bytes frame) Stepped (record { state = (step f s frame).0; due = map reply_bytes (step f s frame).1 })
Serves-step f s frame grammar = record { sent = record { frame = frame; grammar = grammar; spelled = refl }; answered = record { state = refl; replies_are = refl } }

-- A frame and its replies.

-- what is received is the front of what waits
pub received_front : (f : KeyedFn) (state : ServerState) (due replies : List (List ℕ)) (later : List Event) (end : Served) → IsServed f (record { state = state; due = due }) (map Received replies ++ later) end → (rest : List (List ℕ)) × (due ≡ replies ++ rest) × IsServed f (record { state = state; due = rest }) later end
received_front f state due [] later end served = (due, refl, served)
received_front f state due (reply ∷ replies) later end served =
    let behind = received_front f state served.0 replies later end served.2 in
    (behind.0, served.1 ∙ ap (λ more. reply ∷ more) behind.1, behind.2)

-- a frame and the replies to it that are received: they are the front of those by which it was answered
pub IsServed-exchange : (f : KeyedFn) (start end : Served) (frame : FrameText) (mark : Mark) (replies : List (List ℕ)) (later : List Event) → InGrammar frame → IsServed f start (Sent (frame_bytes frame) mark ∷ (map Received replies ++ later)) end → (after : Served) × IsAnswered f start.state frame mark replies after × IsServed f after later end
IsServed-exchange f start end frame mark replies later grammar served =
    let now = served.0 in
    let rest = received_front f now.state now.due replies later end served.2 in
    let after : Served = record { state = now.state; due = rest.0 } in
    (after, subst (λ due. Answers f start.state frame mark now.state due) rest.1 (Serves-frame f start.state frame mark now grammar served.1), rest.2)
