-- How a session carries out an addition or a deletion: what its plan says at the place where it stands, and that it is done.
use Rattle.std.proofs.Common.{◌≡◌, ◌≤◌, arith, ◌⊎◌, inl, inr, ℕ, true, false, List, [], ◌∷◌, ◌++◌, map, refl, sym, ap, subst, ◌∙◌}
use Rattle.std.specs.Prelude.{◌≢◌, filter, Option, None, Some, Result, Ok, Err, IfOk, IfErr, IfSome, OnErr}
use Rattle.std.specs.Option.{option_and_then, option_or}
use Rattle.std.specs.Result.{result_err}
use Rattle.client_core.specs.StandsFor as core
use Rattle.client_core.specs.StandsFor.{StandsFor, add_fault, delete_fault, frames_next, with_command}
use Rattle.client_core.specs.Updates.{command_of_update}
use Rattle.client_core.specs.declared.update.Update.{Update}
use Rattle.client_core.specs.declared.update.Update.TheVariants as kinds
use Rattle.client_core.specs.declared.client.Client.{Client}
use Rattle.client_core.specs.declared.command_fault.CommandFault.{CommandFault}
use Rattle.client_core.specs.declared.command_fault.CommandFault.TheVariants as commands
use Rattle.client_core.specs.declared.planned_update.PlannedUpdate.{PlannedUpdate}
use Rattle.client_core.specs.declared.ready.Ready.{Ready}
use Rattle.client_records.specs.Records.{update_record}
use Rattle.client_registry.specs.Command.{Command, Add, Delete, is_update}
use Rattle.client_registry.specs.Document.{Document}
use Rattle.client_registry.specs.Histories.{longer}
use Rattle.client_registry.specs.Epochs.{begins, with_commands}
use Rattle.client_registry.specs.Run.{Run, Offsets, Epochs, last_run}
use Rattle.client_renewal.specs.declared.past.Past.{Past}
use Rattle.keyed_fn.specs.KeyFormulas.{mark_of}
use Rattle.keyed_fn.specs.KeyedFn.{KeyedFn}
use Rattle.sse_frames.specs.Frames.{FrameText, frame_bytes}
use Rattle.sse_model.specs.Histories.{frames_of_next}
use Rattle.sse_script.specs.Shown as says
use Rattle.sse_script.specs.Shown.{Cause}
use Rattle.sse_script.specs.declared.refusal.Refusal.{Refusal}
use Rattle.script_documents.specs.Refused.{document_refusal}
use Rattle.script_documents.specs.LineFaults.{SaysRefusal}
use Rattle.script_documents.specs.declared.line_fault.LineFault.{LineFault}
use Rattle.script_documents.specs.declared.line_fault.LineFault.TheVariants as lines
use Rattle.def_script_meaning.specs.Carries.{Keeps, keys_at, with_answers, StopsIn}
use Rattle.def_script_meaning.specs.Outcome.{Place, Printed, Outcome, Does, unless}
use Rattle.def_script_meaning.specs.Refused.{add_refusal, delete_refusal}
use Rattle.def_script_meaning.specs.Stops.{At}
use Rattle.sse_client.specs.Exchanges.{HasExchanged}
use Rattle.sse_client.specs.RecordKept.{SendsKept}
use Rattle.script_run_texts.specs.LineResultViews.{line_result_view, refuses}
use Rattle.client_core.specs.Owes.{AreNumbered}
use Rattle.sse_client.specs.Stages.{hash_keys_under}
use Rattle.sse_client.specs.Stands.{IsAt, Seen, GoesOn, outside_of}
use Rattle.script_run_texts.specs.Stops.{command_cause}
use Rattle.script_run_texts.specs.declared.command_stop.CommandStop.{CommandStop}
use Rattle.script_run_texts.specs.declared.command_stop.CommandStop.TheVariants as stops
use Rattle.sse_client.specs.UpdateFaults.{answer_to_command, answer_to_line, refusal_in}
use Rattle.sse_client.specs.UpdatePlans.{IfPlanned, IsRefused, IsUnplanned, IsUpdatePlan, IsPlanOf, StopsPlan, clash_of}
use Rattle.script_run_texts.specs.declared.line_result.LineResult.{LineResult}
use Rattle.sse_client.specs.declared.session.Stage.TheVariants.{Searching}
use Rattle.sse_client.specs.declared.update_answer.UpdateAnswer.{UpdateAnswer}
use Rattle.sse_client.specs.declared.update_answer.UpdateAnswer.TheVariants as answers
use Rattle.sse_client.proofs.CommandTaken.{goes-refused, stops-kept, stops-memory}
use Rattle.sse_client.proofs.PlansOfUpdates.{IsPlanFor, StandsFor-longer, key_in-longer, marks_in-longer, frames-at, plan-add-at, plan-delete-at, refuses-delete}

-- Plans.

-- a fault of the words of a document is that of its addition
pub line_fault : (place : Place) (d : Document) (clash : Option Cause) (fault : LineFault) → SaysRefusal fault (document_refusal d.id d.words) → IsUnplanned (add_refusal place.history d) clash (answer_to_line fault)
line_fault place d clash (lines.Refused refusal) says = first (document_refusal d.id d.words) _ refusal says
  where
    first : (a b : Option Refusal) (refusal : Refusal) → Some refusal ≡ a → option_or a b ≡ Some refusal
    first None b refusal is = absurd (cc)
    first (Some x) b refusal is = sym is
line_fault place d clash lines.NoMemory says = inl refl

-- such an answer is no plan
pub unplanned : (f : KeyedFn) (place : Place) (why : Option Refusal) (c : Command) (answer : Result UpdateAnswer CommandStop) → IsUnplanned why (clash_of f place c) answer → IsUpdatePlan f place why c answer
unplanned f place why c (Ok (answers.Planned planned)) isnt = absurd isnt
unplanned f place why c (Ok (answers.Refused shown)) is = is
unplanned f place why c (Err stop) is = is

-- no fault has a plan
pub no_plan-line : (fault : LineFault) (P : PlannedUpdate → Type 0) → IfPlanned (answer_to_line fault) P
no_plan-line (lines.Refused refusal) P = tt
no_plan-line lines.NoMemory P = tt

pub no_plan : (fault : CommandFault) (P : PlannedUpdate → Type 0) → IfPlanned (answer_to_command fault) P
no_plan (commands.AlreadyLive id) P = tt
no_plan (commands.UnknownDocument id) P = tt
no_plan (commands.CounterFull position) P = tt
no_plan commands.HistoryFull P = tt
no_plan (commands.LabelClash first second) P = tt
no_plan (commands.NumberClash first second) P = tt
no_plan commands.NoMemory P = tt

-- what stops the run in planning
pub stops_plan-line : (fault : LineFault) → IfErr (answer_to_line fault) StopsPlan
stops_plan-line (lines.Refused refusal) = tt
stops_plan-line lines.NoMemory = tt

pub stops_plan : (fault : CommandFault) → IfErr (answer_to_command fault) StopsPlan
stops_plan (commands.AlreadyLive id) = tt
stops_plan (commands.UnknownDocument id) = tt
stops_plan (commands.CounterFull position) = tt
stops_plan commands.HistoryFull = tt
stops_plan (commands.LabelClash first second) = tt
stops_plan (commands.NumberClash first second) = tt
stops_plan commands.NoMemory = tt

-- the refusal that an answer is
named_refusal : (answer : Result UpdateAnswer CommandStop) (why : Refusal) → refusal_in answer ≡ Some why → answer ≡ Ok (answers.Refused why)
named_refusal (Ok (answers.Planned planned)) why is = absurd (cc)
named_refusal (Ok (answers.Refused refusal)) why is = cc
named_refusal (Err stop) why is = absurd (cc)

module _ (f : KeyedFn) (place : Place) (client : Client Ready) (at : IsAt f (Searching client) place) where
  abbrev es : Epochs
  es = at.stands.0

  abbrev o : Offsets
  o = begins es

  abbrev run : Run
  run = last_run es

  -- the key of its place is the prepared one
  pub at_master : (master : List ℕ) → master ≡ client.key → keys_at place o.epoch ≡ master
  at_master master prepared = sym (prepared ∙ at.key)

  -- the frame of a plan at this place
  pub frame_at : (c : Command) (bytes : List ℕ) → bytes ∷ [] ≡ map frame_bytes (frames_next f (keys_at place) o run c) → bytes ∷ [] ≡ map frame_bytes (frames_of_next f place.key place.history (c ∷ []))
  frame_at c bytes is = is ∙ ap (map frame_bytes) (sym (frames-at f place es at.stands.1 c))

  module _ (r : Result PlannedUpdate CommandFault) where
    pub addition_at : (d : Document) → document_refusal d.id d.words ≡ None → (r ≢ Err commands.NoMemory → result_err r ≡ add_fault f (keys_at place) o run d)
        → IsPlanFor (add_refusal place.history d) (clash_of f place (Add d)) r
    addition_at d valid fault = plan-add-at f place es at.stands.1 r at.stands.2.kept d valid fault

    module _ (id : ℕ) (some : 1 ≤ id) where
      not_zero : id ≢ 0
      not_zero = λ zero. absurd (omega (arith, some, zero))

      pub deletion_at : (r ≢ Err commands.NoMemory → result_err r ≡ delete_fault f (keys_at place) o run id) → IsPlanFor (delete_refusal place.history id) (clash_of f place (Delete id)) r
      deletion_at fault = plan-delete-at f place es at.stands.1 r id not_zero fault

      -- a refused deletion is refused, whatever memory there is
      pub deletion_refused : IfSome (core.delete_refusal o run id) (λ fault. r ≡ Err fault) → (x : CommandFault) → r ≡ Err x → IfSome (delete_refusal place.history id) (λ refusal. answer_to_command x ≡ Ok (answers.Refused refusal))
      deletion_refused first x is =
          subst (λ o. IfSome o (λ refusal. answer_to_command x ≡ Ok (answers.Refused refusal))) (sym (ap (λ h. delete_refusal h id) at.stands.1 ∙ refuses-delete o run id not_zero))
          (by (core.delete_refusal o run id) first)
        where
          named : (e : CommandFault) → x ≡ e → (o : Option Refusal) → refusal_in (answer_to_command e) ≡ o → IfSome o (λ refusal. answer_to_command x ≡ Ok (answers.Refused refusal))
          named e same None known = tt
          named e same (Some why) known = ap answer_to_command same ∙ named_refusal (answer_to_command e) why known

          by : (o : Option CommandFault) → IfSome o (λ fault. r ≡ Err fault) → IfSome (option_and_then (λ fault. refusal_in (answer_to_command fault)) o) (λ refusal. answer_to_command x ≡ Ok (answers.Refused refusal))
          by None h = tt
          by (Some e) h = let same : x ≡ e = cc in named e same (refusal_in (answer_to_command e)) refl

-- the frame of an update has the number that the client gives it
numbered-next : (f : KeyedFn) (keys : ℕ → List ℕ) (o : Offsets) (run : Run) (u : Update) (state : Ready) → StandsFor f keys o run state → AreNumbered state.frames (frames_next f keys o run (command_of_update u))
numbered-next f keys begin before (kinds.Add doc) state s = (ap Some (sym s.number), tt)
numbered-next f keys begin before (kinds.Delete id) state s = (ap Some (sym s.number), tt)

module _ (f : KeyedFn) (place : Place) (client : Client Ready) (at : IsAt f (Searching client) place) (u : Update) (c : Command) (is : command_of_update u ≡ c) where
  abbrev next_frames : List FrameText
  next_frames = frames_of_next f place.key place.history (c ∷ [])

  pub numbered-at : AreNumbered client.state.frames next_frames
  numbered-at =
      subst (AreNumbered client.state.frames) (sym (frames-at f place at.stands.0 at.stands.1 c))
      (subst (λ d. AreNumbered client.state.frames (frames_next f (keys_at place) (begins at.stands.0) (last_run at.stands.0) d)) is (numbered-next f (keys_at place) (begins at.stands.0) (last_run at.stands.0) u client.state at.stands.2))

-- the record of an update's plan is that of its command
records_of_update : (u : Update) (c : Command) → command_of_update u ≡ c → update_record (command_of_update u) ∷ [] ≡ map update_record (filter is_update (c ∷ []))
records_of_update (kinds.Add doc) c is = ap (λ d. map update_record (filter is_update (d ∷ []))) is
records_of_update (kinds.Delete id) c is = ap (λ d. map update_record (filter is_update (d ∷ []))) is

-- Outcomes.

module _ (f : KeyedFn) (place : Place) (refusal : Option Refusal) (c : Command) (shown : Printed) where
  abbrev updating : Outcome
  updating = Does (c ∷ []) shown

  accepted-is : refusal ≡ None → unless refusal updating ≡ updating
  accepted-is none = ap (λ r. unless r updating) none

  module _ (client : Client Ready) (at : IsAt f (Searching client) place) (planned : PlannedUpdate) (none : refusal ≡ None) (plan : IsPlanOf f place c planned) (old new : Seen) where
    abbrev payload : List ℕ
    payload = update_record (command_of_update planned.update)

    -- an update whose record was kept and whose frame was exchanged is done
    pub goes-updated : (ready : Client Ready) (came : LineResult) → Keeps old.kept new.kept (payload ∷ []) → HasExchanged old.told new.told [] (frames_of_next f place.key place.history (c ∷ []))
        → line_result_view came ≡ with_answers [] (shown ∷ []) → refuses came ≡ false → ready.key ≡ client.key → ready.state.registry.keys ≡ client.state.registry.keys → ready.state.past ≡ client.state.past → StandsFor f (keys_at place) (begins at.stands.0) (with_command (last_run at.stands.0) c) ready.state
        → GoesOn f old new (Searching ready) came place (unless refusal updating)
    goes-updated ready came kept x view fine keyed hashes past stands =
        subst (GoesOn f old new (Searching ready) came place) (sym (accepted-is none))
        (record {
          kept = subst (Keeps old.kept new.kept) (records_of_update planned.update c plan.command) kept;
          answers = [];
          sent = record { events = x.events; adds = x.adds; exchanged = x.exchanged; no_clash = plan.no_clash };
          shown = view;
          refuses = fine;
          stands = record {
            key = keyed ∙ at.key ∙ key_in-longer place.key place.history (c ∷ []);
            stands = (with_commands (c ∷ []) at.stands.0, ap (longer (c ∷ [])) at.stands.1, StandsFor-longer f place.key place.history (c ∷ []) at.stands.0 ready.state at.stands.1 stands);
            hashed = hashes ∙ at.hashed ∙ ap (hash_keys_under f) (key_in-longer place.key place.history (c ∷ []));
            mark = at.mark;
            marks = ap (λ (p : Past). p.marks.items) past ∙ at.marks ∙ ap (λ marks. place.used ++ marks) (marks_in-longer (mark_of f) place.key place.history (c ∷ []));
          };
        })

    -- one whose record was refused, or whose exchange was cut, stops the run
    pub stops-updated : (T : Type 0) (stop : CommandStop) → SendsKept {T = T} payload old new (frames_of_next f place.key place.history (c ∷ [])) (Err stop) → (written : Option (List ℕ))
        → StopsIn f place (unless refusal updating) (outside_of old written) (outside_of new written) (At (command_cause stop))
    stops-updated T stop sends written =
        subst (λ result. StopsIn f place result (outside_of old written) (outside_of new written) (At (command_cause stop))) (sym (accepted-is none))
        (stops-kept T f place updating old new written (frames_of_next f place.key place.history (c ∷ [])) payload refl (records_of_update planned.update c plan.command) plan.no_clash stop sends)

  -- a refused one is refused
  pub goes-refused_update : (now : Seen) (client : Client Ready) (came : LineResult) (why : Refusal) → IsAt f (Searching client) place → refusal ≡ Some why → line_result_view came ≡ says.Refused why ∷ [] → refuses came ≡ true
      → GoesOn f now now (Searching client) came place (unless refusal updating)
  goes-refused_update now client came why at is view refused =
      subst (GoesOn f now now (Searching client) came place) (sym (ap (λ r. unless r updating) is)) (goes-refused f now (Searching client) came place why view refused at)

  -- equal values and want of memory stop the run before anything of it is sent
  pub stops-unplanned : (now : Seen) (stop : CommandStop) → (stop ≡ stops.Memory) ⊎ ((refusal ≡ None) × (clash_of f place c ≡ Some (command_cause stop))) → (written : Option (List ℕ))
      → StopsIn f place (unless refusal updating) (outside_of now written) (outside_of now written) (At (command_cause stop))
  stops-unplanned now stop why written = elim why [
    | inl memory ↦ subst (λ s. StopsIn f place (unless refusal updating) (outside_of now written) (outside_of now written) (At (command_cause s))) (sym memory) (stops-memory f now place (unless refusal updating) written)
    | inr clash ↦ subst (λ result. StopsIn f place result (outside_of now written) (outside_of now written) (At (command_cause stop))) (sym (accepted-is clash.0))
        (inl (record { cause = command_cause stop; found = clash.1; stops = refl; nothing = refl }))
  ]

-- what follows of each good answer, and of each fault
pub of_good : {T E : Type 0} (r : Result T E) (P Q : T → Type 0) → ((x : T) → P x → Q x) → IfOk r P → IfOk r Q
of_good (Ok x) P Q then p = then x p
of_good (Err e) P Q then p = tt

pub of_fault : {T E : Type 0} (r : Result T E) (P Q : E → Type 0) → ((e : E) → P e → Q e) → IfErr r P → IfErr r Q
of_fault (Ok x) P Q then p = tt
of_fault (Err e) P Q then p = then e p

pub of_stop : {T E : Type 0} (r : Result T E) (P Q : Type 0) → (P → Q) → OnErr r P → OnErr r Q
of_stop (Ok x) P Q then p = tt
of_stop (Err e) P Q then p = then p

-- a stop in what a line comes to
pub stops_as : (f : KeyedFn) (place : Place) (old new : Seen) (written : Option (List ℕ)) (cause : Cause) {r line : Outcome} → r ≡ line → StopsIn f place r (outside_of old written) (outside_of new written) (At cause) → StopsIn f place line (outside_of old written) (outside_of new written) (At cause)
stops_as f place old new written cause same stops = subst (λ result. StopsIn f place result (outside_of old written) (outside_of new written) (At cause)) same stops

-- where a refusal would have been told, there is none
pub not_refused : (refusal : Option Refusal) (plan : Result UpdateAnswer CommandStop) → (IsRefused plan → ⊥) → IfSome refusal (λ why. plan ≡ Ok (answers.Refused why)) → refusal ≡ None
not_refused None plan unrefused told = refl
not_refused (Some why) plan unrefused told = absurd (unrefused (why, told))
