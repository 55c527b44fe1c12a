-- What the part of an exchange that passed before a run stopped makes of an honest server: it took the first frame of it, or not; and what
-- passed before a session was opened leaves the server as it was.
use Rattle.std.proofs.Common.{◌≡◌, ◌⊎◌, ℕ, zero, suc, inl, inr, List, [], ◌∷◌, map, drop, take, refl, sym, ap, ◌∙◌, subst}
use Rattle.std.specs.List.{AllByRecursion}
use Rattle.keyed_fn.specs.KeyedFn.{KeyedFn}
use Rattle.def_link_events.proofs.Honest.{Serves-frame}
use Rattle.def_link_events.specs.Events.{Event, Sent, Received}
use Rattle.def_link_events.specs.Served.{Served, IsServed, Serves}
use Rattle.def_link_events.specs.declared.mark.Mark.TheVariants.{Unknown}
use Rattle.server_core.specs.State.{ServerState}
use Rattle.server_core.specs.Step.{step, steps}
use Rattle.sse_frames.specs.Frames.{FrameText, Hello, InGrammar, frame_bytes}
use Rattle.sse_script.specs.Shown.{Cause}
use Rattle.def_script_meaning.specs.Exchange.{IsCut, bare}
use Rattle.def_script_meaning.specs.Goes.{IsLeft}
use Rattle.def_script_meaning.specs.HelloExchange.{IsTurned}
use Rattle.def_script_meaning.specs.Runs.{Ended}

-- nothing passed, or the first of these frames and replies
abbrev pub IsPartOf : List FrameText → List Event → Type 0
IsPartOf frames [] = Unit {0}
IsPartOf [] (event ∷ events) = ⊥
IsPartOf (frame ∷ frames) (Sent bytes mark ∷ events) = (bytes ≡ frame_bytes frame) × ((replies : List (List ℕ)) × (events ≡ map Received replies))
IsPartOf (frame ∷ frames) (Received bytes ∷ events) = ⊥

pub part_of_left : (f : KeyedFn) (end : Ended) (left : List FrameText) (cut : List Event) → IsLeft f end left cut → IsPartOf left cut
part_of_left f end left cut (inl whole) = subst (IsPartOf left) (sym whole.1) tt
part_of_left f end left cut (inr (inl (cause, stops, is))) = by left cut is
  where
    by : (left : List FrameText) (cut : List Event) → IsCut left cut cause → IsPartOf left cut
    by left [] is = tt
    by [] (event ∷ events) is = absurd is
    by (frame ∷ left) (Sent bytes mark ∷ events) is = (is.0, (is.1.0, is.1.1))
    by (frame ∷ left) (Received bytes ∷ events) is = absurd is
part_of_left f end left cut (inr (inr (inl disk))) = subst (IsPartOf left) (sym disk.0) tt
part_of_left f end left cut (inr (inr (inr clash))) = subst (IsPartOf left) (sym clash.0) tt

-- replies that are received leave the server as it was
received_state : (f : KeyedFn) (start end : Served) (replies : List (List ℕ)) → IsServed f start (map bare (map Received replies)) end → end.state ≡ start.state
received_state f start end [] served = sym served.0
received_state f start end (reply ∷ replies) served = received_state f _ end replies served.2

-- a frame of the grammar and replies to it: its step was made, or it left the server as it was
sent_state : (f : KeyedFn) (start end : Served) (frame : FrameText) (bytes : List ℕ) (replies : List (List ℕ)) (events : List Event) → InGrammar frame → bytes ≡ frame_bytes frame → events ≡ map Received replies
    → IsServed f start (Sent bytes Unknown ∷ map bare events) end → (end.state ≡ start.state) ⊎ (end.state ≡ (step f start.state frame).0)
sent_state f start end frame bytes replies events grammar spelled are served =
    let now = served.0 in
    let later : end.state ≡ now.state = received_state f now end replies (subst (λ es. IsServed f now (map bare es) end) are served.2) in
    elim (Serves-frame f start.state frame Unknown now grammar (subst (λ b. Serves f start.state b Unknown now) spelled served.1)) [
      | inl stepped ↦ inr (later ∙ stepped.state)
      | inr (inl lacked) ↦ inl (later ∙ lacked.state)
      | inr (inr failed) ↦ inl (later ∙ failed.state)
    ]

pub part_left : (f : KeyedFn) (mid end : Served) (left : List FrameText) (cut : List Event) → AllByRecursion InGrammar left → IsPartOf left cut → IsServed f mid (map bare cut) end
    → (end.state ≡ mid.state) ⊎ ((frame : FrameText) × (rest : List FrameText) × (left ≡ frame ∷ rest) × (end.state ≡ (step f mid.state frame).0))
part_left f mid end left [] grammar is served = inl (sym served.0)
part_left f mid end [] (event ∷ events) grammar is served = absurd is
part_left f mid end (frame ∷ rest) (Received bytes ∷ events) grammar is served = absurd is
part_left f mid end (frame ∷ rest) (Sent bytes mark ∷ events) grammar is served =
    elim (sent_state f mid end frame bytes is.1.0 events grammar.0 is.0 is.1.1 served) [ inl same ↦ inl same | inr stepped ↦ inr (frame, rest, refl, stepped) ]

-- the step of the next frame behind the first n
pub steps-next : (f : KeyedFn) (s : ServerState) (frames : List FrameText) (n : ℕ) (frame : FrameText) (rest : List FrameText) → drop n frames ≡ frame ∷ rest → (step f (steps f s (take n frames)).0 frame).0 ≡ (steps f s (take (suc n) frames)).0
steps-next f s [] zero frame rest are = absurd (cc)
steps-next f s (x ∷ xs) zero frame rest are = ap (λ y. (step f s y).0) (let same : frame ≡ x = cc in same)
steps-next f s [] (suc n) frame rest are = absurd (cc)
steps-next f s (x ∷ xs) (suc n) frame rest are = steps-next f (step f s x).0 xs n frame rest are

-- Hello leaves it as it was
pub turned_state : (f : KeyedFn) (start end : Served) (low high : ℕ) (events : List Event) (cause : Cause) → IsServed f start (map bare events) end → IsTurned low high events cause → end.state ≡ start.state
turned_state f start end low high [] cause served is = sym served.0
turned_state f start end low high (Sent bytes mark ∷ []) cause served is = elim (sent_state f start end Hello bytes [] [] tt is.0 refl served) [ inl same ↦ same | inr stepped ↦ stepped ]
turned_state f start end low high (Sent bytes mark ∷ Received answer ∷ []) cause served is =
    elim (sent_state f start end Hello bytes (answer ∷ []) (Received answer ∷ []) tt is.0 refl served) [ inl same ↦ same | inr stepped ↦ stepped ]
turned_state f start end low high (Received bytes ∷ events) cause served is = absurd is
turned_state f start end low high (Sent bytes mark ∷ Sent more other ∷ events) cause served is = absurd is
turned_state f start end low high (Sent bytes mark ∷ Received reply ∷ event ∷ events) cause served is = absurd is
