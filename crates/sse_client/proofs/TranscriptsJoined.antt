-- What is told of several calls of a link, one after the other.
use Rattle.std.proofs.Common.{◌≡◌, ◌≤◌, ℕ, List, [], ◌∷◌, ◌++◌, Some, None, Ok, Err, Result, refl, sym, ap, subst, ◌∙◌, append_assoc, inl, inr, ◌⊎◌}
use Rattle.std.specs.Prelude.{option_map, IfErr, IsErrAnd, OnErr, OnOk}
use Rattle.std.proofs.lemmas.List.{append-nil}
use Rattle.sse_link.specs.declared.link_fault.LinkFault.{LinkFault}
use Rattle.sse_link.specs.declared.link_fault.LinkFault.TheVariants as faults
use Rattle.def_link_events.specs.Events.{Event, Sent, Received}
use Rattle.def_link_events.specs.declared.mark.Mark.{Mark}
use Rattle.sse_script.specs.Shown as cause
use Rattle.def_script_meaning.specs.Exchange.{Told, Adds}
use Rattle.sse_frames.specs.Frames.{FrameText}
use Rattle.script_run_texts.specs.declared.peer_stop.PeerStop.{PeerStop}
use Rattle.script_run_texts.specs.Causes.{KeepsRecorder, KeepsSink, KeepsSource, SinkCause}
use Rattle.script_run_texts.specs.declared.stop_cause.StopCause.{StopCause}
use Rattle.sse_client.specs.Calls.{KeepsLink, LinkShows, Sends}
use Rattle.sse_client.specs.Exchanges.{HasCut}
use Rattle.sse_client.specs.RecordKept.{SendsKept}
use Rattle.sse_client.specs.Stands.{Seen}
use Rattle.script_run_texts.specs.declared.command_stop.CommandStop.{CommandStop}
use Rattle.sse_client.specs.Progress.{IsAnswered, IsUnanswered, IsOutside}
use Rattle.script_run_texts.specs.Stops.{peer_cause}
use Rattle.sse_client.specs.Stops.{stop_of_link}

-- nothing passed
pub Adds-nothing : (old new : Told) → new ≡ old → Adds old new []
Adds-nothing None new e = e
Adds-nothing (Some told) new e = e ∙ ap (λ t. Some t) (sym (append-nil told))

told_joined : (old : Told) (xs ys : List Event) → option_map (λ told. told ++ ys) (option_map (λ told. told ++ xs) old) ≡ option_map (λ told. told ++ (xs ++ ys)) old
told_joined None xs ys = refl
told_joined (Some told) xs ys = ap (λ t. Some t) (append_assoc told xs ys)

-- events, and then others
pub Adds-joined : (old between new : Told) (xs ys : List Event) → Adds old between xs → Adds between new ys → Adds old new (xs ++ ys)
Adds-joined old between new xs ys first second = second ∙ ap (option_map (λ told. told ++ ys)) first ∙ told_joined old xs ys

-- the same reply
pub Adds-same : (now new : Told) (came reply : List ℕ) → reply ≡ came → Adds now new (Received came ∷ []) → Adds now new (Received reply ∷ [])
Adds-same now new came reply e one = subst (λ bytes. Adds now new (Received bytes ∷ [])) (sym e) one

pub IsAnswered-same : (now new : Told) (frame came reply : List ℕ) → reply ≡ came → IsAnswered now new frame came → IsAnswered now new frame reply
IsAnswered-same now new frame came reply e one = subst (IsAnswered now new frame) (sym e) one

-- what a fault of the link prints comes from outside
pub from_outside : (fault : LinkFault) → (peer_cause (stop_of_link fault) ≡ cause.LinkFault) ⊎ (peer_cause (stop_of_link fault) ≡ cause.NoMemory)
from_outside faults.Cut = inl refl
from_outside faults.NoMemory = inr refl

-- a fault of the link in sending leaves the frame without reply
pub IsUnanswered-send : (old new : Told) (frame : List ℕ) (fault : LinkFault)
    → (fault ≡ faults.Cut → (new ≡ old) ⊎ ((mark : Mark) × Adds old new (Sent frame mark ∷ [])))
    → (fault ≡ faults.NoMemory → new ≡ old) → IsUnanswered old new frame (peer_cause (stop_of_link fault))
IsUnanswered-send old new frame faults.Cut cut lacked = elim (cut refl) [
  | inl same ↦ record { events = []; adds = Adds-nothing old new same; most = inl refl; outside = inl refl }
  | inr sent ↦ record { events = Sent frame sent.0 ∷ []; adds = sent.1; most = inr (sent.0, refl); outside = inl refl }
]
IsUnanswered-send old new frame faults.NoMemory cut lacked = record { events = []; adds = Adds-nothing old new (lacked refl); most = inl refl; outside = inr refl }

-- so does one in receiving
pub IsUnanswered-recv : (old between new : Told) (frame : List ℕ) (c : cause.Cause) → ((mark : Mark) × Adds old between (Sent frame mark ∷ [])) → new ≡ between → IsOutside c → IsUnanswered old new frame c
IsUnanswered-recv old between new frame c sent same outside = record {
  events = Sent frame sent.0 ∷ [];
  adds = same ∙ sent.1;
  most = inr (sent.0, refl);
  outside = outside;
}

-- what holds of a fault converted holds of the error
pub IfErr-from : {T E : Type 0} (r : Result T E) (stop : E) (Q : E → Type 0) → IsErrAnd r (λ e. e ≡ stop) → Q stop → IfErr r Q
IfErr-from (Ok x) stop Q is q = absurd is
IfErr-from (Err e) stop Q is q = subst Q (sym is) q

-- what holds anyway holds at an error
pub may_stop : {T E : Type 0} (r : Result T E) (P : Type 0) → P → OnErr r P
may_stop (Ok x) P p = tt
may_stop (Err e) P p = p

-- what follows at each good answer
pub OnOk-then : {T E : Type 0} (r : Result T E) (P Q : Type 0) → (P → Q) → OnOk r P → OnOk r Q
OnOk-then (Ok x) P Q then p = then p
OnOk-then (Err e) P Q then p = tt

-- what follows of each error, and of what holds at any
pub IfErr-both : {T E : Type 0} (r : Result T E) (P : E → Type 0) (H : Type 0) (Q : E → Type 0) → ((e : E) → P e → H → Q e) → IfErr r P → OnErr r H → IfErr r Q
IfErr-both (Ok x) P H Q then p h = tt
IfErr-both (Err e) P H Q then p h = then e p h

-- a call that was cut for a stop ends with it
pub Sends-err : {T : Type 0} (old new : LinkShows) (frames : List FrameText) (r : Result T PeerStop) (stop : PeerStop) → IsErrAnd r (λ e. e ≡ stop) → HasCut old.told new.told frames (peer_cause stop) → Sends old new frames r
Sends-err old new frames (Ok x) stop is cut = absurd is
Sends-err old new frames (Err e) stop is cut = subst (λ s. HasCut old.told new.told frames (peer_cause s)) (sym is) cut

-- a record was refused for a stop, or what was sent behind it was cut
pub SendsKept-err : {T : Type 0} (payload : List ℕ) (old new : Seen) (frames : List FrameText) (r : Result T CommandStop) (stop : CommandStop) → IsErrAnd r (λ e. e ≡ stop) → SendsKept {T = T} payload old new frames (Err stop)
    → SendsKept payload old new frames r
SendsKept-err payload old new frames (Ok x) stop is sends = absurd is
SendsKept-err {T = T} payload old new frames (Err e) stop is sends = subst (λ s. SendsKept {T = T} payload old new frames (Err s)) (sym is) sends

-- what a call keeps of a link is kept over an earlier one that went well
pub KeepsLink-then : {T E : Type 0} (showing : ℕ → ℕ → E → Type 0) (old mid new : LinkShows) (r : Result T E) → mid.began ≡ old.began → mid.faults ≡ old.faults → KeepsLink showing mid new r → KeepsLink showing old new r
KeepsLink-then showing old mid new r began steady k = record {
  began = k.began ∙ began;
  steady = subst (λ n. OnOk r (new.faults ≡ n)) steady k.steady;
  cause = subst (λ n. IfErr r (showing n new.faults)) steady k.cause;
}

-- a result that is an error says nothing of a good answer
pub may_stop-ok : {T E : Type 0} (r : Result T E) (stop : E) → IsErrAnd r (λ e. e ≡ stop) → (P : Type 0) → OnOk r P
may_stop-ok (Ok x) stop is P = absurd is
may_stop-ok (Err e) stop is P = tt

-- what a call keeps where it ended with this error
pub KeepsLink-err : {T E : Type 0} (showing : ℕ → ℕ → E → Type 0) (old new : LinkShows) (r : Result T E) (stop : E) → IsErrAnd r (λ e. e ≡ stop) → new.began ≡ old.began → showing old.faults new.faults stop → KeepsLink showing old new r
KeepsLink-err showing old new r stop is began cause = record { began = began; steady = may_stop-ok r stop is _; cause = IfErr-from r stop (showing old.faults new.faults) is cause }

-- a call that exchanges nothing leaves the link as it is
pub KeepsLink-none : {T E : Type 0} (showing : ℕ → ℕ → E → Type 0) (link : LinkShows) (r : Result T E) → IfErr r (λ e. (m : ℕ) → showing m m e) → KeepsLink showing link link r
KeepsLink-none showing link (Ok x) none = record { began = refl; steady = refl; cause = tt }
KeepsLink-none showing link (Err e) none = record { began = refl; steady = tt; cause = none link.faults }

pub KeepsSource-err : {T E : Type 0} (showing : ℕ → ℕ → E → Type 0) (before now : ℕ) (r : Result T E) (stop : E) → IsErrAnd r (λ e. e ≡ stop) → showing before now stop → KeepsSource showing before now r
KeepsSource-err showing before now r stop is cause = record { steady = may_stop-ok r stop is _; cause = IfErr-from r stop (showing before now) is cause }

pub KeepsRecorder-err : {T E : Type 0} (showing : ℕ → ℕ → E → Type 0) (before now : ℕ) (r : Result T E) (stop : E) → IsErrAnd r (λ e. e ≡ stop) → showing before now stop → KeepsRecorder showing before now r
KeepsRecorder-err showing before now r stop is cause = record { steady = may_stop-ok r stop is _; cause = IfErr-from r stop (showing before now) is cause }

-- a call that keeps no record leaves the count
pub KeepsRecorder-none : {T E : Type 0} (showing : ℕ → ℕ → E → Type 0) (n : ℕ) (r : Result T E) → IfErr r (λ e. (m : ℕ) → showing m m e) → KeepsRecorder showing n n r
KeepsRecorder-none showing n (Ok x) none = record { steady = refl; cause = tt }
KeepsRecorder-none showing n (Err e) none = record { steady = tt; cause = none n }

pub KeepsSink-err : {T : Type 0} (before now shortages shortages_now : ℕ) (r : Result T StopCause) (stop : StopCause) → IsErrAnd r (λ e. e ≡ stop) → SinkCause before now stop → shortages ≤ shortages_now → KeepsSink before now shortages shortages_now r
KeepsSink-err before now shortages shortages_now r stop is cause fewer = record { steady = may_stop-ok r stop is _; cause = IfErr-from r stop (SinkCause before now) is cause; no_fewer = fewer }
