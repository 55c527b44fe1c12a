-- A session that goes on from records: what passes until the server has all frames of their history, and where it stands then.
use Rattle.std.proofs.Common.{◌≡◌, ◌⊎◌, inl, inr, ℕ, ◌+◌, ◌-◌, ◌<◌, ◌≤◌, ◌^◌, false, List, [], map, drop, refl, sym, ap, ◌∙◌, subst, arith}
use Rattle.std.specs.Prelude.{Option, None, Some, Result, Ok, Err, IfSome, IsErrAnd, option_map}
use Rattle.std.specs.Io.KnownBytes.{append_known}
use Rattle.std.proofs.lemmas.List.{drop-map}
use Rattle.client_core.proofs.ResumeLaws.{none_lacking}
use Rattle.client_core.specs.Owes.{last_frames}
use Rattle.client_core.specs.ResumeFaults.{collision_fault}
use Rattle.client_core.specs.Restores.{Remembers}
use Rattle.client_core.specs.Resumes.{IsWithin, Lacks, Replans, Resumes, first_of_last}
use Rattle.client_core.specs.TakenViews.{to_send}
use Rattle.client_core.specs.States.{BehindState, ClientOf, RecordedState}
use Rattle.client_core.specs.declared.resume_fault.ResumeFault.{ResumeFault}
use Rattle.client_core.specs.declared.resume_fault.ResumeFault.TheVariants.{LabelClash, NoMemory, NumberClash, PeerElsewhere, PlaceClash}
use Rattle.client_registry.specs.Sized.{update_frames}
use Rattle.keyed_fn.specs.KeyedFn.{KeyedFn}
use Rattle.script_run_texts.specs.Causes.{CommandCause, KeepCommandCause, PrintCause}
use Rattle.script_run_texts.specs.Stops.{command_cause}
use Rattle.def_script_meaning.proofs.GoneAsMeant.{Adds-nothing, AreExchanged-none}
use Rattle.script_run_texts.specs.Stops.{stop_of_sink}
use Rattle.script_run_texts.specs.declared.stop_cause.StopCause.{StopCause}
use Rattle.sse_outside.specs.Causes.{Rose}
use Rattle.sse_outside.specs.declared.device_fault.DeviceFault.{DeviceFault}
use Rattle.sse_outside.specs.declared.device_fault.DeviceFault.TheVariants as devices
use Rattle.sse_outside.specs.Fronts.{TookFront}
use Rattle.sse_script.specs.Texts.{text_of}
use Rattle.sse_outside.specs.Kept.{Kept}
use Rattle.def_script_meaning.specs.Carries.{Outside, collision_cause}
use Rattle.def_script_meaning.specs.Runs.{moment}
use Rattle.def_script_meaning.specs.Stops as ends
use Rattle.def_script_meaning.specs.Exchange.{Told, AreExchanged}
use Rattle.sse_frames.specs.Frames.{Hello, frame_bytes}
use Rattle.sse_frames.specs.Replies.{Next, reply_bytes}
use Rattle.sse_model.specs.Compared.{Collision, Labels, Numbers, Places}
use Rattle.sse_script.specs.Shown as says
use Rattle.sse_client.proofs.PartOfExchange.{Greets-answered, TurnsAway-answered, shows_elsewhere}
use Rattle.sse_client.specs.Exchanges.{HasExchanged, HasCut}
use Rattle.sse_client.proofs.RunGoesOn.{sink_stop}
use Rattle.sse_client.proofs.WholeRun.{IfSome-then}
use Rattle.sse_client.specs.Known.{Known, epochs_known, place_known}
use Rattle.sse_client.specs.ResumedRun.{HasResent, IsFound, ResumesTo, StopsResending, collision_again, frames_lacking}
use Rattle.sse_client.specs.Stands.{EndsFrom, seen, outside_of, stop_view}
use Rattle.sse_client.specs.Turns.{ending}
use Rattle.sse_client.specs.declared.lines.Refusals.{Refusals}
use Rattle.sse_client.specs.Progress.{IsAnswered}
use Rattle.sse_client.specs.NotResumed.{stop_of_resume}

-- a number that isn't among others is below them or above
pub out_of_range : (low high n : ℕ) → ((low ≤ n) × (n ≤ high) → ⊥) → (n < low) ⊎ (high < n)
out_of_range low high n out = grind arith

-- two equal values of a command are told by their cause
cause_told : (c : Collision) → command_cause (stop_of_resume (collision_fault c)) ≡ collision_cause c
cause_told (Labels first second) = refl
cause_told (Places first second) = refl
cause_told (Numbers first second) = refl

-- none of these faults is one of the link
pub resume_steady : (before now : ℕ) (fault : ResumeFault) → now ≡ before → CommandCause before now (stop_of_resume fault)
resume_steady before now (PeerElsewhere low high got) same = same
resume_steady before now (LabelClash first second) same = same
resume_steady before now (PlaceClash first second) same = same
resume_steady before now (NumberClash first second) same = same
resume_steady before now NoMemory same = same

-- nor one of what keeps the records
pub resume_unkept : (count : ℕ) (fault : ResumeFault) → KeepCommandCause count count (stop_of_resume fault)
resume_unkept count (PeerElsewhere low high got) = refl
resume_unkept count (LabelClash first second) = refl
resume_unkept count (PlaceClash first second) = refl
resume_unkept count (NumberClash first second) = refl
resume_unkept count NoMemory = refl

-- what the sink's count shows of a line that isn't printed
pub PrintCause-of : (before now : ℕ) (fault : DeviceFault) → (fault ≡ devices.Failed → Rose before now) → (fault ≡ devices.NoMemory → now ≡ before) → PrintCause before now fault
PrintCause-of before now devices.Failed failed memory = failed refl
PrintCause-of before now devices.NoMemory failed memory = memory refl

-- the collision behind a fault that names one
named : (c : Option Collision) (fault : ResumeFault) → option_map collision_fault c ≡ Some fault → (found : Collision) × (c ≡ Some found) × (command_cause (stop_of_resume fault) ≡ collision_cause found)
named None fault is = absurd (cc)
named (Some found) fault is = (found, refl, ap (λ x. command_cause (stop_of_resume x)) (let same : fault ≡ collision_fault found = cc in same) ∙ cause_told found)

module _ (f : KeyedFn) (key : List ℕ) (known : Known) (old greeted : Told) (next : ℕ) (answered : IsAnswered old greeted (frame_bytes Hello) (reply_bytes (Next next))) where
  found : IsWithin f key known.begins known.run next → IsFound f key known next old greeted
  found within = record { greets = Greets-answered next next old greeted (frame_bytes Hello) (reply_bytes (Next next)) next (omega arith) (omega arith) refl refl answered; within = within }

  -- the server is elsewhere
  pub resending-elsewhere : next < 2 ^ 32 → (IsWithin f key known.begins known.run next → ⊥) → StopsResending f key known old greeted (says.PeerElsewhere (first_of_last f key known.begins known.run) (known.begins.frame + update_frames known.run) next)
  resending-elsewhere fits out =
      let low = first_of_last f key known.begins known.run in
      let high = known.begins.frame + update_frames known.run in
      inl (TurnsAway-answered low high old greeted (frame_bytes Hello) (reply_bytes (Next next)) _ refl answered (shows_elsewhere low high (reply_bytes (Next next)) next (out_of_range low high next out) fits refl))

  -- it lacks nothing
  pub resent-none : (state : RecordedState) (left : ℕ) → Remembers known.begins known.run state → Lacks f key known.begins known.run next (Ok left) → next ≡ known.begins.frame + update_frames known.run → HasResent f key known old greeted left
  resent-none state left knows lacks all = record {
    next = next;
    greeted = greeted;
    found = found lacks.0;
    lacking = lacks.1;
    sent = record {
      events = [];
      adds = Adds-nothing greeted;
      exchanged =
          subst (λ frames. AreExchanged [] frames [])
          (sym (ap (λ n. drop (n - first_of_last f key known.begins known.run) (last_frames f (λ epoch. key) known.begins known.run)) all ∙ none_lacking f key known.begins known.run state.last knows.recalls)) AreExchanged-none;
    };
    no_clash = λ some. absurd (some (omega (arith, lacks.1, all)));
  }

  -- or it got what it lacked
  pub resent-some : (left : ℕ) (new : Told) → Lacks f key known.begins known.run next (Ok left) → collision_again f key known ≡ None → HasExchanged greeted new [] (frames_lacking f key known next) → HasResent f key known old new left
  resent-some left new lacks none sent = record { next = next; greeted = greeted; found = found lacks.0; lacking = lacks.1; sent = sent; no_clash = λ some. none }

  -- or not all of it
  pub resending-cut : (new : Told) (cause : says.Cause) → IsWithin f key known.begins known.run next → next < known.begins.frame + update_frames known.run → collision_again f key known ≡ None → HasCut greeted new (frames_lacking f key known next) cause → StopsResending f key known old new cause
  resending-cut new cause within some none cut = inr (next, greeted, found within, inr (inr (some, none, cut)))

  -- or the client doesn't go on
  pub resending-refused : next < 2 ^ 32 → (fault : ResumeFault) → Resumes f key known.begins known.run next (Err fault) → StopsResending f key known old greeted (command_cause (stop_of_resume fault))
  resending-refused fits fault (inl out) = subst (λ x. StopsResending f key known old greeted (command_cause (stop_of_resume x))) (sym out.0) (resending-elsewhere fits out.1)
  resending-refused fits fault (inr (inl clash)) =
      let c = named (collision_again f key known) fault clash.2 in
      inr (next, greeted, found clash.0, inl (refl, clash.1, (c.0, c.1, c.2)))
  resending-refused fits fault (inr (inr memory)) = inr (next, greeted, found memory.0, inr (inl (refl, ap (λ x. command_cause (stop_of_resume x)) memory.1)))

  pub resending-lacking : next < 2 ^ 32 → (fault : ResumeFault) → Lacks f key known.begins known.run next (Err fault) → StopsResending f key known old greeted (command_cause (stop_of_resume fault))
  resending-lacking fits fault lacks = subst (λ x. StopsResending f key known old greeted (command_cause (stop_of_resume x))) (sym lacks.0) (resending-elsewhere fits lacks.1)

-- the frames that a client owes are those that the server lacks
pub owed-lacking : (f : KeyedFn) (key : List ℕ) (known : Known) (next : ℕ) (client : ClientOf BehindState) → Replans f key known.begins known.run next (Ok client) → to_send client.state ≡ map frame_bytes (frames_lacking f key known next)
owed-lacking f key known next client replans = replans.2.owed ∙ drop-map frame_bytes (next - first_of_last f key known.begins known.run) (last_frames f (λ epoch. key) known.begins known.run)

-- Behind that, the lines.

-- what holds of whatever is known
pub for_all : {T : Type 0} (o : Option T) (P : T → Type 0) → ((x : T) → P x) → IfSome o P
for_all None P all = tt
for_all (Some x) P all = all x

-- a stop ends a run so
pub resumes-stopped : (f : KeyedFn) (key : List ℕ) (known : Known) (number : ℕ) (left : Option (List (List ℕ))) (now end : Outside) (r : Result Refusals StopCause) (stop : StopCause) → IsErrAnd r (λ e. e ≡ stop)
    → ResumesTo f key known number left now end (stop_view stop) → ResumesTo f key known number left now end (ending r)
resumes-stopped f key known number left now end (Ok refusals) stop is o = absurd is
resumes-stopped f key known number left now end (Err x) stop is o = subst (λ s. ResumesTo f key known number left now end (stop_view s)) (sym is) o

module _ (f : KeyedFn) (key : List ℕ) (known : Known) (number : ℕ) (left : Option (List (List ℕ))) (told : Told) (kept : Kept) (written : Option (List ℕ)) where
  abbrev start : Outside
  start = outside_of (seen told kept) written

  -- a run that stops before the server has all frames
  pub resumes-held : (new : Told) (cause : says.Cause) → StopsResending f key known told new cause → ResumesTo f key known number left start (outside_of (seen new kept) written) (ends.At cause)
  resumes-held new cause why = (
    Some (epochs_known known),
    for_all left _ (λ texts. inl (record { cause = cause; stops = refl; why = why; unkept = refl; unprinted = refl; same_key = refl; history = refl })),
  )

  module _ (new : Told) (frames : ℕ) (resent : HasResent f key known told new frames) where
    -- before the line that says so is printed whole
    pub resumes-untold : (written' : Option (List ℕ)) (fault : DeviceFault) → TookFront written written' (text_of (says.Resumed frames)) → ResumesTo f key known number left start (outside_of (seen new kept) written') (stop_view (stop_of_sink fault))
    resumes-untold written' fault front = (
      Some (epochs_known known),
      for_all left _ (λ texts. inr (inl (record { frames = frames; resent = resent; stops = sink_stop fault; printed = front; unkept = refl; same_key = refl; history = refl }))),
    )

    -- and one that comes to its lines
    pub resumes-lines : (written' : Option (List ℕ)) (end : Outside) (stop : ends.Stop) → written' ≡ append_known written (text_of (says.Resumed frames))
        → EndsFrom f (moment (place_known f key known) number left false (outside_of (seen new kept) written')) end stop → ResumesTo f key known number left start end stop
    resumes-lines written' end stop printed runs = (
      runs.0,
      IfSome-then left _ _ (λ texts goes. inr (inr (outside_of (seen new kept) written', record { frames = frames; resent = resent; printed = printed; unkept = refl }, goes))) runs.1,
    )
