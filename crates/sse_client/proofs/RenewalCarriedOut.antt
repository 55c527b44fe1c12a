-- How a session carries out a renewal of its key: what its plan says at the place where it stands, and that it is done.
use Rattle.std.proofs.Common.{◌≡◌, ◌≢◌, inl, inr, ℕ, true, false, List, [], ◌∷◌, ◌++◌, length, refl, sym, ap, subst, ◌∙◌, arith, append_assoc}
use Rattle.std.specs.Prelude.{Option, None, Some, Result, Ok, Err, IfSome, option_map}
use Rattle.std.specs.Option.{option_and_then, option_or}
use Rattle.std.specs.Result.{result_err}
use Rattle.client_core.specs.Owes.{AreNumbered}
use Rattle.client_core.specs.Renewals.{alone, renewal_fault}
use Rattle.client_core.specs.StandsFor.{StandsFor}
use Rattle.client_core.specs.declared.client.Client.{Client}
use Rattle.client_core.specs.declared.ready.Ready.{Ready}
use Rattle.client_records.specs.Records.{renewal_record}
use Rattle.client_registry.specs.Acceptance.{blocks_of}
use Rattle.client_registry.specs.Epochs.{begins, behind, next_begins, setup_renewed, with_renewal}
use Rattle.client_registry.specs.Histories.{renewed}
use Rattle.client_registry.specs.Run.{Run, Offsets, Epochs, last_run}
use Rattle.client_registry.specs.Setup.{Setup, setup_words}
use Rattle.client_renewal.specs.Refusals as renewals
use Rattle.client_renewal.specs.declared.renewal_fault.RenewalFault.{RenewalFault}
use Rattle.client_renewal.specs.declared.renewal_fault.RenewalFault.TheVariants as faults
use Rattle.index_setup.specs.Entries.{key_table}
use Rattle.keyed_fn.specs.KeyFormulas.{mark_of}
use Rattle.keyed_fn.specs.KeyedFn.{KeyedFn}
use Rattle.sse_model.specs.Compared.{collision_of_setup}
use Rattle.sse_model.specs.Epochs.{key_in, keys_under}
use Rattle.sse_model.specs.Histories.{collision_of_renewal, frames_of_renewal}
use Rattle.sse_model.specs.Wire.{frames_of_setup}
use Rattle.sse_script.specs.Shown as says
use Rattle.sse_script.specs.Shown.{Cause}
use Rattle.sse_script.specs.declared.refusal.Refusal.{Refusal}
use Rattle.def_script_meaning.specs.Carries.{Keeps, clash_in_hand, collision_cause, StopsIn}
use Rattle.def_script_meaning.specs.Exchange.{AreExchanged}
use Rattle.def_script_meaning.specs.Lines.{RebuildLine}
use Rattle.def_script_meaning.specs.Outcome.{Place, Outcome, Renews, after, marks_in, marks_so_far, outcome, rebuild_refusal, setup_after, unless, used_refusal}
use Rattle.def_script_meaning.specs.Refused.{key_refusal, live_refusal, renewal_refusal}
use Rattle.def_script_meaning.specs.Stops.{At}
use Rattle.script_run_texts.specs.LineResultViews.{line_result_view, refuses}
use Rattle.script_run_texts.specs.Stops.{command_cause}
use Rattle.script_run_texts.specs.declared.command_stop.CommandStop.{CommandStop}
use Rattle.script_run_texts.specs.declared.line_result.LineResult.{LineResult}
use Rattle.sse_client.specs.Exchanges.{HasExchanged}
use Rattle.sse_client.specs.RecordKept.{SendsKept}
use Rattle.sse_client.specs.RenewalFaults.{renewal_answer}
use Rattle.sse_client.specs.Stages.{key_of, hash_keys_of, hash_keys_under, marks_of}
use Rattle.sse_client.specs.Stands.{GoesOn, HasMarks, IsAt, IsReady, IsStage, Seen, outside_of}
use Rattle.sse_client.specs.declared.session.Stage.{Stage}
use Rattle.sse_client.specs.declared.session.Stage.TheVariants.{Collecting, Searching}
use Rattle.sse_client.proofs.CommandTaken.{behind as behind_setup, goes-refused, is_up, stops-kept, stops-memory}
use Rattle.sse_client.proofs.RenewalPlans.{AnswersFault, IsRenewalFor, all_refuse, no_numbers, not_early, refusal_in, refuses-renewal, renewal_for, told}
use Rattle.sse_client.proofs.SetupPlan.{frames_of_setup-are_numbered}

module _ (f : KeyedFn) (place : Place) (client : Client Ready) (at : IsAt f (Searching client) place) (key : List ℕ) where
  abbrev es : Epochs
  es = at.stands.0

  abbrev o : Offsets
  o = begins es

  abbrev run : Run
  run = last_run es

  abbrev s : Setup
  s = setup_renewed run

  abbrev marks : List (List ℕ)
  marks = client.state.past.marks.items

  -- what the line comes to
  abbrev why : Option Refusal
  why = rebuild_refusal place place.history key

  abbrev renewing : Outcome
  renewing = Renews key (setup_after place.history)

  comes-rebuild : outcome place (RebuildLine key) ≡ unless why renewing
  comes-rebuild = behind_setup place (RebuildLine key) (is_up f client place at)

  comes-renewed : why ≡ None → outcome place (RebuildLine key) ≡ renewing
  comes-renewed none = comes-rebuild ∙ ap (λ r. unless r renewing) none

  why_is : why ≡ option_and_then told (renewals.renewal_refusal marks (mark_of f key) (next_begins es).frame s)
  why_is =
      (λ i. option_or (used_refusal (at.mark i) place key) (renewal_refusal (at.stands.1 i) (setup_after (at.stands.1 i))))
      ∙ ap (λ ms. option_or (key_refusal ms (mark_of f key)) (renewal_refusal (Some es) s)) (sym at.marks)
      ∙ refuses-renewal es at.stands.2.kept marks (mark_of f key)

  -- the clash of its setup
  clash_is : clash_in_hand f place renewing ≡ option_map collision_cause (collision_of_setup (key_table f key s) (next_begins es).epoch s)
  clash_is = ap (λ h. option_map collision_cause (collision_of_renewal f key h)) at.stands.1

  -- and its frames
  frames_are : frames_of_setup (key_table f key s) (behind o run) s ≡ frames_of_renewal f key place.history
  frames_are = ap (frames_of_renewal f key) (sym at.stands.1)

  -- they are numbered from the client's next number on
  pub numbered-renewal : (number : ℕ) → number ≡ client.state.frames → AreNumbered number (frames_of_setup (key_table f key s) (behind o run) s)
  numbered-renewal number next =
      let same : (behind o run).frame ≡ number = omega (arith, next, at.stands.2.number) in
      subst (λ n. AreNumbered n (frames_of_setup (key_table f key s) (behind o run) s)) same (frames_of_setup-are_numbered (key_table f key s) (behind o run) s)

  pub begins-next : (number : ℕ) → number ≡ client.state.frames → (behind o run).frame ≡ number
  begins-next number next = omega (arith, next, at.stands.2.number)

  -- the plan
  module _ {X : Type 0} (r : Result X RenewalFault) where
    pub renewal_at : (r ≢ Err faults.NoMemory → result_err r ≡ renewal_fault f key marks o run) → IsRenewalFor why (clash_in_hand f place renewing) r
    renewal_at fault =
        subst (λ w. IsRenewalFor w (clash_in_hand f place renewing) r) (sym why_is)
        (subst (λ c. IsRenewalFor (option_and_then told (renewals.renewal_refusal marks (mark_of f key) (next_begins es).frame s)) c r) (sym clash_is)
        (renewal_for (renewals.renewal_refusal marks (mark_of f key) (next_begins es).frame s) (collision_of_setup (key_table f key s) (next_begins es).epoch s)
        (all_refuse es at.stands.2.kept marks (mark_of f key)) (no_numbers (key_table f key s) (next_begins es).epoch s) r fault))

    -- where it isn't refused, none of the causes stands that are found without memory
    pub no_early_refusal : IfSome (option_or (renewals.key_refusal marks (mark_of f key)) (renewals.live_refusal s.documents)) (λ fault. r ≡ Err fault) → ((fault : RenewalFault) → r ≡ Err fault → told fault ≡ None)
        → option_or (used_refusal place.mark place key) (live_refusal (setup_after place.history).documents) ≡ None
    no_early_refusal first untold =
        (λ i. option_or (used_refusal (at.mark i) place key) (live_refusal (setup_after (at.stands.1 i)).documents))
        ∙ ap (λ ms. option_or (key_refusal ms (mark_of f key)) (live_refusal s.documents)) (sym at.marks)
        ∙ not_early s.documents marks (mark_of f key) r first untold

  -- Outcomes.

  -- a session that stands for the new epoch alone stands after the history with it
  stage_renewed : (next : Stage) → IsReady f key (behind o run) (alone s) next → IsStage f next (after renewing place)
  stage_renewed (Collecting fresh docs) ready = absurd ready
  stage_renewed (Searching ready) stands =
      (with_renewal key es, ap (renewed key) at.stands.1, subst (λ h. StandsFor f (keys_under place.key (renewed key h)) (behind o run) (alone s) ready.state) (sym at.stands.1) stands)

  -- its key is the new one
  key_renewed : key_in place.key (renewed key place.history) ≡ key
  key_renewed = ap (λ h. key_in place.key (renewed key h)) at.stands.1

  marks_renewed : marks_so_far (mark_of f) (after renewing place) ≡ marks ++ mark_of f key ∷ []
  marks_renewed =
      ap (λ h. place.used ++ marks_in (mark_of f) place.key (renewed key h)) at.stands.1
      ∙ sym (append_assoc place.used (marks_in (mark_of f) place.key (Some es)) (mark_of f key ∷ []))
      ∙ ap (λ h. (place.used ++ marks_in (mark_of f) place.key h) ++ mark_of f key ∷ []) (sym at.stands.1)
      ∙ ap (λ ms. ms ++ mark_of f key ∷ []) (sym at.marks)

  has_marks : (next : Stage) → IsReady f key (behind o run) (alone s) next → marks_of next ≡ marks ++ mark_of f key ∷ [] → HasMarks f next (after renewing place)
  has_marks (Collecting fresh docs) ready are = absurd ready
  has_marks (Searching ready) stands are = are ∙ sym marks_renewed

  module _ (old new : Seen) (payload : List ℕ) (spelled : payload ≡ renewal_record (mark_of f key)) (none : why ≡ None) (no_clash : clash_in_hand f place renewing ≡ None) where
    -- a renewal whose record was kept and whose frames were exchanged is done
    pub goes-renewed : (next : Stage) (came : LineResult) (words blocks : ℕ) → words ≡ length (setup_words s) → blocks ≡ blocks_of s → Keeps old.kept new.kept (payload ∷ [])
        → HasExchanged old.told new.told [] (frames_of_setup (key_table f key s) (behind o run) s) → line_result_view came ≡ says.Rebuilt words blocks ∷ [] → refuses came ≡ false → IsReady f key (behind o run) (alone s) next
        → key_of next ≡ key → hash_keys_of next ≡ hash_keys_under f key → marks_of next ≡ marks ++ mark_of f key ∷ [] → GoesOn f old new next came place (outcome place (RebuildLine key))
    goes-renewed next came words blocks counted counted_blocks kept x view fine ready keyed hashed are =
        subst (GoesOn f old new next came place) (sym (comes-renewed none))
        (record {
          kept = subst (λ p. Keeps old.kept new.kept (p ∷ [])) spelled kept;
          answers = [];
          sent = record {
            events = x.events;
            adds = x.adds;
            exchanged = subst (λ fs. AreExchanged [] fs x.events) frames_are x.exchanged;
            no_clash = no_clash;
          };
          shown = view ∙ (λ i. says.Rebuilt (counted i) (counted_blocks i) ∷ []) ∙ ap (λ h. says.Rebuilt (length (setup_words (setup_after h))) (blocks_of (setup_after h)) ∷ []) (sym at.stands.1);
          refuses = fine;
          stands = record {
            key = keyed ∙ sym key_renewed;
            stands = stage_renewed next ready;
            hashed = hashed ∙ ap (hash_keys_under f) (sym key_renewed);
            mark = at.mark;
            marks = has_marks next ready are;
          };
        })

    -- one whose record was refused, or whose frames were cut, stops the run
    pub stops-renewed : (T : Type 0) (stop : CommandStop) → SendsKept {T = T} payload old new (frames_of_setup (key_table f key s) (behind o run) s) (Err stop) → (written : Option (List ℕ))
        → StopsIn f place (outcome place (RebuildLine key)) (outside_of old written) (outside_of new written) (At (command_cause stop))
    stops-renewed T stop sends written =
        subst (λ result. StopsIn f place result (outside_of old written) (outside_of new written) (At (command_cause stop))) (sym (comes-renewed none))
        (stops-kept T f place renewing old new written (frames_of_setup (key_table f key s) (behind o run) s) payload frames_are (ap (λ p. p ∷ []) spelled) no_clash stop sends)

  module _ (now : Seen) where
    -- a refused one is refused
    pub goes-refused_renewal : (came : LineResult) (shown : Refusal) (fault : RenewalFault) → AnswersFault why (clash_in_hand f place renewing) (renewal_answer fault) → renewal_answer fault ≡ Ok shown
        → line_result_view came ≡ says.Refused shown ∷ [] → refuses came ≡ true → GoesOn f now now (Searching client) came place (outcome place (RebuildLine key))
    goes-refused_renewal came shown fault answers is view refused =
        let refusal : why ≡ Some shown = subst (AnswersFault why (clash_in_hand f place renewing)) is answers in
        subst (GoesOn f now now (Searching client) came place) (sym (comes-rebuild ∙ ap (λ r. unless r renewing) refusal))
        (goes-refused f now (Searching client) came place shown view refused at)

    -- equal values and want of memory stop the run before anything of it is sent
    pub stops-no_renewal : (stop : CommandStop) (fault : RenewalFault) → AnswersFault why (clash_in_hand f place renewing) (renewal_answer fault) → renewal_answer fault ≡ Err stop → (written : Option (List ℕ))
        → StopsIn f place (outcome place (RebuildLine key)) (outside_of now written) (outside_of now written) (At (command_cause stop))
    stops-no_renewal stop fault answers is written =
        let because : AnswersFault why (clash_in_hand f place renewing) (Err stop) = subst (AnswersFault why (clash_in_hand f place renewing)) is answers in
        elim because [
          | inl memory ↦ subst (λ x. StopsIn f place (outcome place (RebuildLine key)) (outside_of now written) (outside_of now written) (At (command_cause x))) (sym memory)
              (stops-memory f now place (outcome place (RebuildLine key)) written)
          | inr clash ↦ subst (λ result. StopsIn f place result (outside_of now written) (outside_of now written) (At (command_cause stop))) (sym (comes-renewed clash.0))
              (inl (record { cause = command_cause stop; found = clash.1; stops = refl; nothing = refl }))
        ]

-- a fault that stops the run isn't told as a refusal
pub untold : (fault : RenewalFault) (stop : CommandStop) → renewal_answer fault ≡ Err stop → told fault ≡ None
untold fault stop is = ap refusal_in is
