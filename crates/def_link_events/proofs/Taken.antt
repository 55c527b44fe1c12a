-- Frames that were sent: there is one row of them, it grows with each, and where none is refused the updates among them are taken.
use Rattle.std.proofs.Common.{◌≡◌, ℕ, List, [], ◌∷◌, ◌++◌, Option, None, refl, sym, ap, ◌∙◌, subst, append_assoc}
use Rattle.std.specs.Option.{option_map_or}
use Rattle.keyed_fn.specs.KeyedFn.{KeyedFn}
use Rattle.sse_frames.specs.Frames.{FrameText, InGrammar, frame_bytes, update_number}
use Rattle.sse_frames.specs.Replies.{ReplyText}
use Rattle.sse_frames.proofs.FrameBytesLaws.{one_frame}
use Rattle.server_core.specs.Refusal.{refusal}
use Rattle.server_core.specs.State.{ServerState}
use Rattle.server_core.specs.Step.{taken, answers, step, steps}
use Rattle.def_link_events.specs.Events.{Event, Sent, Received, AreStepped, IsStepped}
use Rattle.def_link_events.specs.Served.{Served, IsServed}
use Rattle.def_link_events.specs.Taken.{AreSent, update_taken, taken_one, frames_taken, NoneRefused, updates_among}
use Rattle.def_link_events.specs.declared.mark.Mark.{Mark}

-- What was sent.

-- one frame more
pub AreSent-sent : (frames : List FrameText) (events : List Event) (frame : FrameText) (bytes : List ℕ) (mark : Mark) → AreSent frames events → InGrammar frame → bytes ≡ frame_bytes frame
    → AreSent (frames ++ frame ∷ []) (events ++ Sent bytes mark ∷ [])
AreSent-sent frames [] frame bytes mark sent grammar spelled = subst (λ fs. AreSent (fs ++ frame ∷ []) (Sent bytes mark ∷ [])) (sym sent) (grammar, spelled, refl)
AreSent-sent [] (Sent other mark' ∷ events) frame bytes mark sent grammar spelled = absurd sent
AreSent-sent (first ∷ frames) (Sent other mark' ∷ events) frame bytes mark sent grammar spelled = (sent.0, sent.1, AreSent-sent frames events frame bytes mark sent.2 grammar spelled)
AreSent-sent frames (Received reply ∷ events) frame bytes mark sent grammar spelled = AreSent-sent frames events frame bytes mark sent grammar spelled

-- one reply more
pub AreSent-received : (frames : List FrameText) (events : List Event) (reply : List ℕ) → AreSent frames events → AreSent frames (events ++ Received reply ∷ [])
AreSent-received frames [] reply sent = sent
AreSent-received [] (Sent other mark ∷ events) reply sent = absurd sent
AreSent-received (first ∷ frames) (Sent other mark ∷ events) reply sent = (sent.0, sent.1, AreSent-received frames events reply sent.2)
AreSent-received frames (Received other ∷ events) reply sent = AreSent-received frames events reply sent

-- the events determine the frames
pub AreSent-once : (xs ys : List FrameText) (events : List Event) → AreSent xs events → AreSent ys events → xs ≡ ys
AreSent-once xs ys [] one other = one ∙ sym other
AreSent-once [] ys (Sent bytes mark ∷ events) one other = absurd one
AreSent-once (x ∷ xs) [] (Sent bytes mark ∷ events) one other = absurd other
AreSent-once (x ∷ xs) (y ∷ ys) (Sent bytes mark ∷ events) one other =
    let same : x ≡ y = (one_frame x y [] [] one.0 other.0 (ap (λ b. b ++ []) (sym one.1 ∙ other.1))).0 in
    let rest : xs ≡ ys = AreSent-once xs ys events one.2 other.2 in
    λ i. same i ∷ rest i
AreSent-once xs ys (Received bytes ∷ events) one other = AreSent-once xs ys events one other

-- over an honest link frames were sent
pub frames_sent : (f : KeyedFn) (start end : Served) (events : List Event) → IsServed f start events end → (frames : List FrameText) × AreSent frames events
frames_sent f start end [] served = ([], refl)
frames_sent f start end (Sent bytes mark ∷ events) served =
    let later = frames_sent f served.0 end events served.2 in
    (served.1.sent.frame ∷ later.0, (served.1.sent.grammar, served.1.sent.spelled, later.1))
frames_sent f start end (Received bytes ∷ events) served = frames_sent f _ end events served.2

-- where all were answered by the step, those before the last were, and the last
pub AreStepped-sent : (events : List Event) (bytes : List ℕ) (mark : Mark) → AreStepped (events ++ Sent bytes mark ∷ []) → AreStepped events × IsStepped mark
AreStepped-sent [] bytes mark stepped = (tt, stepped.0)
AreStepped-sent (Sent other mark' ∷ events) bytes mark stepped =
    let both = AreStepped-sent events bytes mark stepped.1 in
    ((stepped.0, both.0), both.1)
AreStepped-sent (Received reply ∷ events) bytes mark stepped = AreStepped-sent events bytes mark stepped

pub AreStepped-received : (events : List Event) (reply : List ℕ) → AreStepped (events ++ Received reply ∷ []) → AreStepped events
AreStepped-received [] reply stepped = tt
AreStepped-received (Sent other mark ∷ events) reply stepped = (stepped.0, AreStepped-received events reply stepped.1)
AreStepped-received (Received other ∷ events) reply stepped = AreStepped-received events reply stepped

-- What was taken.

-- those taken of one frame more
pub frames_taken-push : (f : KeyedFn) (s : ServerState) (frames : List FrameText) (frame : FrameText) → frames_taken f s (frames ++ frame ∷ []) ≡ frames_taken f s frames ++ taken_one (steps f s frames).0 frame
frames_taken-push f s [] frame = nothing_more (taken_one s frame)
  where
    nothing_more : (xs : List FrameText) → xs ++ [] ≡ [] ++ xs
    nothing_more [] = refl
    nothing_more (x ∷ xs) = ap (λ rest. x ∷ rest) (nothing_more xs)
frames_taken-push f s (first ∷ frames) frame =
    ap (λ later. taken_one s first ++ later) (frames_taken-push f (step f s first).0 frames frame)
    ∙ sym (append_assoc (taken_one s first) (frames_taken f (step f s first).0 frames) (taken_one (steps f (step f s first).0 frames).0 frame))

-- the state that a step leaves, by whether the frame is refused
left_by : (f : KeyedFn) (s : ServerState) (frame : FrameText) → Option ReplyText → ServerState
left_by f s frame refused = let came : ServerState × List ReplyText = option_map_or (λ reply. (s, reply ∷ [])) refused (taken s frame, answers f s frame) in came.0

accepted_step : (f : KeyedFn) (s : ServerState) (frame : FrameText) → refusal s frame ≡ None → (step f s frame).0 ≡ taken s frame
unfolding left_by
accepted_step f s frame accepted = ap (left_by f s frame) accepted

-- where none is refused, all updates are taken
pub frames_taken-updates : (f : KeyedFn) (s : ServerState) (frames : List FrameText) → NoneRefused s frames → frames_taken f s frames ≡ updates_among frames
frames_taken-updates f s [] accepted = refl
frames_taken-updates f s (frame ∷ frames) accepted =
    (λ i. update_taken (update_number frame) (accepted.0 i) frame ++ frames_taken f (accepted_step f s frame accepted.0 i) frames)
    ∙ ap (λ later. update_taken (update_number frame) None frame ++ later) (frames_taken-updates f (taken s frame) frames accepted.1)
