-- A server that answered a frame moved as the mark of its answer says.
use Rattle.std.proofs.Common.{◌≡◌, ◌⊎◌, inl, inr, ℕ, Bool, true, false, List, [], ◌∷◌, ◌++◌, Option, Some, None, refl, sym, ap, subst, ◌∙◌}
use Rattle.std.specs.Prelude.{Result, Ok, Err, OnOk, OnErr, IsErrOf}
use Rattle.std.specs.Option.{option_map, option_map_or, IsSomeAnd}
use Rattle.keyed_fn.specs.KeyedFn.{KeyedFn}
use Rattle.sse_frames.specs.Frames.{FrameText}
use Rattle.sse_frames.specs.Replies.{ReplyText}
use Rattle.server_core.specs.Refusal.{refusal}
use Rattle.server_core.specs.State.{ServerState}
use Rattle.server_core.specs.Step.{taken, answers, step}
use Rattle.def_link_events.specs.Events.{Event, Sent, Remote}
use Rattle.def_link_events.specs.Served.{Answers}
use Rattle.def_link_events.specs.declared.mark.Mark.{Mark}
use Rattle.def_link_events.specs.declared.mark.Mark.TheVariants.{Unknown, Stepped, LackedMemory, StoreFailed}
use Rattle.sse_link.specs.declared.link_fault.LinkFault.{LinkFault}
use Rattle.sse_link.specs.declared.link_fault.LinkFault.TheVariants.{Cut, NoMemory}
use Rattle.sse_link.specs.FailingLoopback.{FailsSend}
use Rattle.sse_link.specs.LinkStates.{LinkState, IsSent}
use Rattle.sse_link.specs.Reached.{MovesAs, Reaches, Steps, HasSent}

-- the state that a step leaves, by whether the frame is refused
left_by : (f : KeyedFn) (s : ServerState) (frame : FrameText) → Option ReplyText → ServerState
left_by f s frame refused = let came : ServerState × List ReplyText = option_map_or (λ reply. (s, reply ∷ [])) refused (taken s frame, answers f s frame) in came.0

-- it is the same under every keyed function
one_step : (f g : KeyedFn) (s : ServerState) (frame : FrameText) → (step f s frame).0 ≡ (step g s frame).0
unfolding left_by
one_step f g s frame = elim (refusal s frame) as (λ r. left_by f s frame r ≡ left_by g s frame r) [ None ↦ refl | Some reply ↦ refl ]

steps : (f : KeyedFn) (before : ServerState) (frame : FrameText) (after : ServerState) → after ≡ (step f before frame).0 → Steps before frame after
steps f before frame after is g = is ∙ one_step f g before frame

moved : (f : KeyedFn) (before : ServerState) (frame : FrameText) (mark : Mark) (after : ServerState) (replies : List (List ℕ)) → Answers f before frame mark after replies → MovesAs mark before frame after
moved f before frame Unknown after replies (inl stepped) = inl (steps f before frame after stepped.state)
moved f before frame Unknown after replies (inr (inl lacked)) = inr lacked.state
moved f before frame Unknown after replies (inr (inr failed)) = inr failed.state
moved f before frame Stepped after replies stepped = steps f before frame after stepped.state
moved f before frame LackedMemory after replies lacked = lacked.state
moved f before frame StoreFailed after replies failed = failed.state

-- what a loopback tells of its server
abbrev remote_of : LinkState → Option Remote
remote_of told = Some (record { state = told.state; file = told.file })

-- a frame that reached the server of a loopback
pub has_sent : (f : KeyedFn) (old new : LinkState) (bytes : List ℕ) → IsSent f old new bytes → HasSent bytes (Some old.events) (Some new.events) (remote_of old) (remote_of new)
has_sent f old new bytes sent = record {
  mark = sent.mark;
  told = ap Some sent.events;
  reached = record {
    sent = sent.serves.sent;
    moved = moved f old.state sent.serves.sent.frame sent.mark new.state new.due sent.serves.answered;
    untouched = sent.untouched;
  };
}

-- a send that was cut, as it is listed
pub cut_as_listed : (f : KeyedFn) (delivered : Option Bool) (old new : LinkState) (bytes : List ℕ) → IsSomeAnd delivered (λ d. FailsSend f d old new bytes)
    → ((Some new.events ≡ Some old.events) × (remote_of new ≡ remote_of old)) ⊎ HasSent bytes (Some old.events) (Some new.events) (remote_of old) (remote_of new)
cut_as_listed f None old new bytes fails = absurd fails
cut_as_listed f (Some false) old new bytes same = inl (ap (λ (t : LinkState). Some t.events) same, ap remote_of same)
cut_as_listed f (Some true) old new bytes lost =
    let sent = has_sent f old lost.between bytes lost.sent in
    inr (record {
      mark = sent.mark;
      told = ap (λ (t : LinkState). Some t.events) lost.dropped_is ∙ sent.told;
      reached = subst (λ (now : Option Remote). Reaches bytes sent.mark (remote_of old) now) (sym (ap remote_of lost.dropped_is)) sent.reached;
    })

-- By what a call came to.

pub ok_reached : (f : KeyedFn) (old new : LinkState) (bytes : List ℕ) (result : Result Unit LinkFault) → OnOk result (IsSent f old new bytes)
    → OnOk result (HasSent bytes (Some old.events) (Some new.events) (remote_of old) (remote_of new))
ok_reached f old new bytes (Ok x) sent = has_sent f old new bytes sent
ok_reached f old new bytes (Err fault) sent = tt

pub cut_reached : (f : KeyedFn) (delivered : Option Bool) (old new : LinkState) (bytes : List ℕ) (result : Result Unit LinkFault) → (result ≡ Err Cut → IsSomeAnd delivered (λ d. FailsSend f d old new bytes))
    → IsErrOf result Cut → ((Some new.events ≡ Some old.events) × (remote_of new ≡ remote_of old)) ⊎ HasSent bytes (Some old.events) (Some new.events) (remote_of old) (remote_of new)
cut_reached f delivered old new bytes result listed is = cut_as_listed f delivered old new bytes (listed is)

-- a link that is only ever out of memory is never cut
pub never_cut : (old new : LinkState) (bytes : List ℕ) (result : Result Unit LinkFault) → OnErr result ((result ≡ Err NoMemory) × (new ≡ old))
    → IsErrOf result Cut → ((Some new.events ≡ Some old.events) × (remote_of new ≡ remote_of old)) ⊎ HasSent bytes (Some old.events) (Some new.events) (remote_of old) (remote_of new)
never_cut old new bytes (Ok x) err is = absurd (cc)
never_cut old new bytes (Err fault) err is = absurd (cc (err.0, is))
