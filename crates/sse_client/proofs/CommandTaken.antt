-- How a session takes a command: what it comes to where the session stands, and that this is done.
use Rattle.std.proofs.Common.{◌≡◌, ◌⊎◌, inl, inr, ℕ, true, false, List, [], ◌∷◌, ◌++◌, length, refl, sym, ap, subst, ◌∙◌}
use Rattle.std.specs.Prelude.{Option, None, Some, Result, Ok, Err, IfOk, IfErr, option_map, if◌then◌else◌}
use Rattle.client_core.specs.StandsFor.{StandsFor}
use Rattle.client_core.specs.declared.client.Client.{Client}
use Rattle.client_core.specs.declared.fresh.Fresh.{Fresh}
use Rattle.client_core.specs.declared.ready.Ready.{Ready}
use Rattle.client_registry.specs.Collected.{Collected}
use Rattle.client_records.specs.Records.{setup_record}
use Rattle.client_registry.specs.Acceptance.{blocks_of, size_refusal}
use Rattle.client_registry.specs.Command.{Search}
use Rattle.client_registry.specs.Document.{Document}
use Rattle.client_registry.specs.Documents.{words_of}
use Rattle.client_registry.specs.Histories.{is_set_up, longer}
use Rattle.client_registry.specs.Live.{matching_in}
use Rattle.client_registry.specs.Epochs.{begins, with_commands}
use Rattle.client_registry.specs.Run.{Run, at_first, From, last_run}
use Rattle.client_registry.specs.Setup.{Setup, setup_with}
use Rattle.index_setup.proofs.BuildErrors.{size_accepted}
use Rattle.index_setup.specs.Entries.{key_table, label_clash, place_clash}
use Rattle.index_setup.specs.Refused.{build_refusal}
use Rattle.index_setup.specs.declared.fault.BuildFault.{BuildFault}
use Rattle.keyed_fn.specs.KeyFormulas.{mark_of, token_of}
use Rattle.keyed_fn.specs.KeyedFn.{KeyedFn}
use Rattle.sse_frames.specs.Frames.{FrameText, SearchFrame}
use Rattle.sse_model.proofs.HistoryLaws.{frames_of_next-search, collision_of_next-search}
use Rattle.sse_model.specs.Epochs.{key_in, keys_under}
use Rattle.sse_model.specs.Names.{table}
use Rattle.sse_model.specs.Wire.{frames_of_setup}
use Rattle.sse_script.specs.Shown as says
use Rattle.sse_script.specs.declared.refusal.Refusal.{Refusal}
use Rattle.sse_script.specs.declared.refusal.Refusal.TheVariants as refusals
use Rattle.script_documents.specs.LineDocument.{document}
use Rattle.script_documents.specs.Refused.{bad_word, collect_refusal}
use Rattle.script_documents.specs.LineFaults.{SaysRefusal}
use Rattle.script_documents.specs.declared.line_fault.LineFault.{LineFault}
use Rattle.script_documents.specs.declared.line_fault.LineFault.TheVariants as faults
use Rattle.script_documents.proofs.Passed.{neither, word_passed}
use Rattle.def_script_meaning.proofs.GoneAsMeant.{Adds-nothing, AreExchanged-none, Keeps-nothing}
use Rattle.def_script_meaning.specs.Carries.{Keeps, keys_at, frames_by, records_by, collision_cause, clash_in_hand, IsSent, StopsIn}
use Rattle.sse_outside.specs.Kept.{Kept, with_refused}
use Rattle.def_script_meaning.specs.Exchange.{Told, AreExchanged, AreCut}
use Rattle.def_script_meaning.specs.Lines.{Line, Command, Request, Doc, SetupLine, Find}
use Rattle.def_script_meaning.specs.Outcome.{Place, Finds, Outcome, Collects, Refuses, SetsUp, Does, unless, before_setup, after_setup, marks_in, outcome, after}
use Rattle.def_script_meaning.specs.Refused.{index_refusal, size_refused}
use Rattle.def_script_meaning.specs.Stops.{At}
use Rattle.sse_client.specs.SetupFaults.{setup_answer}
use Rattle.sse_client.specs.Stages.{key_of, hash_keys_of, hash_keys_under, marks_of}
use Rattle.sse_client.specs.Exchanges.{HasExchanged, HasSearched, HasCut}
use Rattle.sse_client.specs.RecordKept.{SendsKept}
use Rattle.script_run_texts.specs.LineResultViews.{line_result_view, refuses}
use Rattle.sse_client.specs.Stands.{HasMarks, IsReady, IsStage, IsAt, Seen, seen, GoesOn, Takes, StopsWithin, outside_of}
use Rattle.script_run_texts.specs.Stops.{command_cause, keep_cause}
use Rattle.script_run_texts.specs.declared.line_result.LineResult.{LineResult}
use Rattle.script_run_texts.specs.declared.line_result.LineResult.TheVariants as line_results
use Rattle.script_run_texts.specs.declared.command_stop.CommandStop.{CommandStop}
use Rattle.script_run_texts.specs.declared.command_stop.CommandStop.TheVariants as commands
use Rattle.sse_outside.specs.declared.device_fault.DeviceFault.{DeviceFault}
use Rattle.sse_outside.specs.declared.device_fault.DeviceFault.TheVariants as devices
use Rattle.sse_client.specs.declared.session.Stage.{Stage}
use Rattle.sse_client.specs.declared.session.Stage.TheVariants.{Collecting, Searching}
use Rattle.sse_client.proofs.PlansOfUpdates.{StandsFor-longer, StandsFor-search, key_in-before, key_in-longer, marks_in-longer}
use Rattle.sse_client.proofs.DocumentCollected.{IsAnswer, IsAdded, inside}
use Rattle.sse_client.proofs.SetupPlan.{clash_cause, no_clash-planned, IsRefusedPlan, refused_size, stopped_plan}

-- What a command comes to.

module _ (place : Place) (line : Request) where
  pub before : is_set_up place.history ≡ false → outcome place line ≡ before_setup place.documents line
  before e = ap (λ up. if up then after_setup place place.history line else before_setup place.documents line) e

  pub behind : is_set_up place.history ≡ true → outcome place line ≡ after_setup place place.history line
  behind e = ap (λ up. if up then after_setup place place.history line else before_setup place.documents line) e

-- Commands that send nothing.

module _ (f : KeyedFn) (now : Seen) (next : Stage) (came : LineResult) (place : Place) where
  quiet_sent : (result : Outcome) → frames_by f place result ≡ [] → clash_in_hand f place result ≡ None → IsSent f place result now.told now.told []
  quiet_sent result none no_clash = record {
    events = [];
    adds = Adds-nothing now.told;
    exchanged = subst (λ fs. AreExchanged [] fs []) (sym none) AreExchanged-none;
    no_clash = no_clash;
  }

  pub goes-refused : (refusal : Refusal) → line_result_view came ≡ says.Refused refusal ∷ [] → refuses came ≡ true → IsAt f next place → GoesOn f now now next came place (Refuses refusal)
  goes-refused refusal view refused at = record { kept = Keeps-nothing now.kept; answers = []; sent = quiet_sent (Refuses refusal) refl refl; shown = view; refuses = refused; stands = at }

  pub goes-collected : (d : Document) → line_result_view came ≡ [] → refuses came ≡ false → IsAt f next (after (Collects d) place) → GoesOn f now now next came place (Collects d)
  goes-collected d view refused at = record { kept = Keeps-nothing now.kept; answers = []; sent = quiet_sent (Collects d) refl refl; shown = view; refuses = refused; stands = at }

-- A document.

comes-doc : (place : Place) (id : ℕ) (texts : List (List ℕ)) (docs : List Document) (r : Option Refusal) → is_set_up place.history ≡ false → docs ≡ place.documents → collect_refusal docs (document id texts) ≡ r
    → outcome place (Doc id texts) ≡ unless r (Collects (document id texts))
comes-doc place id texts docs r none same e =
    before place (Doc id texts) none
    ∙ ap (λ ds. unless (collect_refusal ds (document id texts)) (Collects (document id texts))) (sym same)
    ∙ ap (λ r. unless r (Collects (document id texts))) e

-- where a session collects, it takes a document or refuses it
pub takes-doc : {T : Type 0} (f : KeyedFn) (now : Seen) (id : ℕ) (texts : List (List ℕ)) (docs new : List Document) (next : Stage) (came : LineResult) (done : Result T LineFault) (place : Place)
    → is_set_up place.history ≡ false → docs ≡ place.documents → ((ds : List Document) (after : Place) → new ≡ ds → after ≡ record place { documents = ds } → IsAt f next after)
    → IsAdded done docs new (document id texts) (collect_refusal docs (document id texts)) → IsAnswer done (Ok came) → GoesOn f now now next came place (outcome place (Doc id texts))
takes-doc f now id texts docs new next came (Ok u) place none same at h a =
    let d = document id texts in
    let is : came ≡ line_results.Nothing = inside came line_results.Nothing (Ok came) refl a.nothing in
    subst (GoesOn f now now next came place) (sym (comes-doc place id texts docs None none same h.accepted))
    (goes-collected f now next came place d (ap line_result_view is) (ap refuses is) (at (place.documents ++ d ∷ []) _ (h.added ∙ ap (λ ds. ds ++ d ∷ []) same) refl))
takes-doc f now id texts docs new next came (Err (faults.Refused shown)) place none same at h a = by (collect_refusal docs (document id texts)) refl h.refused
  where
    is : came ≡ line_results.Refused shown
    is = inside came (line_results.Refused shown) (Ok came) refl (a.refused shown refl)

    by : (r : Option Refusal) → collect_refusal docs (document id texts) ≡ r → Some shown ≡ r → GoesOn f now now next came place (outcome place (Doc id texts))
    by None e tells = absurd (cc)
    by (Some refusal) e tells =
        let line : shown ≡ refusal = cc in
        subst (GoesOn f now now next came place) (sym (comes-doc place id texts docs (Some refusal) none same e))
        (goes-refused f now next came place refusal (ap line_result_view is ∙ ap (λ l. says.Refused l ∷ []) line) (ap refuses is) (at place.documents place (h.kept ∙ same) refl))
takes-doc f now id texts docs new next came (Err faults.NoMemory) place none same at h a = let no : Ok came ≡ Err commands.Memory = a.memory refl in absurd (cc)

-- A search.

module _ (f : KeyedFn) (place : Place) (word : List ℕ) where
  abbrev searching : Outcome
  searching = Does (Search word ∷ []) (Finds (matching_in place.history word))

  comes-find : (r : Option Refusal) → is_set_up place.history ≡ true → bad_word 0 (word ∷ []) ≡ r → outcome place (Find word) ≡ unless r searching
  comes-find r up e = behind place (Find word) up ∙ ap (λ r. unless r searching) e

  -- one word is searched for with one frame, under the key of the last epoch
  token_at : (key : List ℕ) → key ≡ key_in place.key place.history → is_set_up place.history ≡ true → SearchFrame (token_of f key word) ∷ [] ≡ frames_by f place searching
  token_at key same up = ap (λ k. SearchFrame (token_of f k word) ∷ []) same ∙ sym (frames_of_next-search f place.key place.history word up)

  no_clash : clash_in_hand f place searching ≡ None
  no_clash = ap (option_map collision_cause) (collision_of_next-search f place.key place.history word)

  module _ (old new : Told) (kept : Kept) (up : is_set_up place.history ≡ true) where
    pub takes-find : (next : Stage) (came : LineResult) (key ids : List ℕ) → key ≡ key_in place.key place.history → bad_word 0 (word ∷ []) ≡ None → HasSearched old new (SearchFrame (token_of f key word)) ids
        → line_result_view came ≡ says.Found ids ∷ [] → refuses came ≡ false → IsAt f next (after searching place) → GoesOn f (seen old kept) (seen new kept) next came place (outcome place (Find word))
    takes-find next came key ids same good s view fine at =
        subst (GoesOn f (seen old kept) (seen new kept) next came place) (sym (comes-find None up good))
        (record {
          kept = Keeps-nothing kept;
          answers = s.answer ∷ [];
          sent = record {
            events = s.exchanged.events;
            adds = s.exchanged.adds;
            exchanged = subst (λ fs. AreExchanged (s.answer ∷ []) fs s.exchanged.events) (token_at key same up) s.exchanged.exchanged;
            no_clash = no_clash;
          };
          shown = view ∙ ap (λ found. says.Found found ∷ []) s.rising;
          refuses = fine;
          stands = at;
        })

    pub stops-find : (key : List ℕ) (c : says.Cause) → key ≡ key_in place.key place.history → bad_word 0 (word ∷ []) ≡ None → HasCut old new (SearchFrame (token_of f key word) ∷ []) c
        → (written : Option (List ℕ)) → StopsIn f place (outcome place (Find word)) (outside_of (seen old kept) written) (outside_of (seen new kept) written) (At c)
    stops-find key c same good cut written =
        subst (λ result. StopsIn f place result (outside_of (seen old kept) written) (outside_of (seen new kept) written) (At c)) (sym (comes-find None up good))
        (inr (inr (inr (record {
          cause = c;
          stops = refl;
          kept = Keeps-nothing kept;
          events = cut.events;
          adds = cut.adds;
          cut = subst (λ fs. AreCut fs cut.events c) (token_at key same up) cut.cut;
          no_clash = λ _. no_clash;
          unprinted = refl;
        }))))

  -- a field that is no word is refused
  pub takes-bad_word : {T : Type 0} (now : Seen) (next : Stage) (came : LineResult) (fault : LineFault) (answer : Result LineResult CommandStop) → is_set_up place.history ≡ true → IsAnswer {T = T} (Err fault) answer → answer ≡ Ok came
      → SaysRefusal fault (bad_word 0 (word ∷ [])) → IsAt f next place → GoesOn f now now next came place (outcome place (Find word))
  takes-bad_word now next came (faults.Refused shown) answer up a ok tells at = by (bad_word 0 (word ∷ [])) refl tells
    where
      is : came ≡ line_results.Refused shown
      is = inside came (line_results.Refused shown) answer ok (a.refused shown refl)

      by : (r : Option Refusal) → bad_word 0 (word ∷ []) ≡ r → Some shown ≡ r → GoesOn f now now next came place (outcome place (Find word))
      by None e tells = absurd (cc)
      by (Some refusal) e tells =
          let line : shown ≡ refusal = cc in
          subst (GoesOn f now now next came place) (sym (comes-find (Some refusal) up e))
          (goes-refused f now next came place refusal (ap line_result_view is ∙ ap (λ l. says.Refused l ∷ []) line) (ap refuses is) at)
  takes-bad_word now next came faults.NoMemory answer up a ok tells at = let no : answer ≡ Err commands.Memory = a.memory refl in absurd (cc)

-- where there was no memory before anything was sent, the run stops there
pub stops-memory : (f : KeyedFn) (now : Seen) (place : Place) (result : Outcome) (written : Option (List ℕ)) → StopsIn f place result (outside_of now written) (outside_of now written) (At says.NoMemory)
stops-memory f now place result written = inr (inl (record { stops = refl; nothing = refl }))

-- a field's fault that isn't a refusal is want of memory
pub stops-bad_word : {T : Type 0} (f : KeyedFn) (now : Seen) (place : Place) (result : Outcome) (written : Option (List ℕ)) (fault : LineFault) (answer : Result LineResult CommandStop) (stop : CommandStop) → IsAnswer {T = T} (Err fault) answer → answer ≡ Err stop
    → StopsIn f place result (outside_of now written) (outside_of now written) (At (command_cause stop))
stops-bad_word f now place result written (faults.Refused shown) answer stop a err = let no : answer ≡ Ok (line_results.Refused shown) = a.refused shown refl in absurd (cc)
stops-bad_word f now place result written faults.NoMemory answer stop a err =
    let is : commands.Memory ≡ stop = cc (a.memory refl, err) in
    subst (λ s. StopsIn f place result (outside_of now written) (outside_of now written) (At (command_cause s))) is (stops-memory f now place result written)

-- where there was no memory for a command that sends nothing
pub stops_if_memory : (f : KeyedFn) (now : Seen) (stage : Stage) (request : Request) → StopsWithin f stage request now now says.NoMemory
stops_if_memory f now stage request = λ place a written. stops-memory f now place (outcome place request) written

-- a session that searches is set up
pub is_up : (f : KeyedFn) (client : Client Ready) (place : Place) → IsAt f (Searching client) place → is_set_up place.history ≡ true
is_up f client place at = ap is_set_up at.stands.1

-- and has the key of the last epoch
pub key_at : (f : KeyedFn) (client : Client Ready) (place : Place) → IsAt f (Searching client) place → client.key ≡ key_in place.key place.history
key_at f client place at = at.key

-- after a search the session stands for the history with it
pub searching_still : (f : KeyedFn) (client : Client Ready) (place : Place) (word : List ℕ) → bad_word 0 (word ∷ []) ≡ None → IsAt f (Searching client) place → IsAt f (Searching client) (after (searching f place word) place)
searching_still f client place word good at = record {
  key = at.key ∙ key_in-longer place.key place.history (Search word ∷ []);
  stands = (
    with_commands (Search word ∷ []) at.stands.0,
    ap (longer (Search word ∷ [])) at.stands.1,
    StandsFor-longer f place.key place.history (Search word ∷ []) at.stands.0 client.state at.stands.1
        (StandsFor-search f (keys_at place) (begins at.stands.0) (last_run at.stands.0) word client.state (word_passed 0 word (neither _ None good).0) at.stands.2),
  );
  hashed = at.hashed ∙ ap (hash_keys_under f) (key_in-longer place.key place.history (Search word ∷ []));
  mark = at.mark;
  marks = at.marks ∙ ap (λ marks. place.used ++ marks) (marks_in-longer (mark_of f) place.key place.history (Search word ∷ []));
}

-- What is kept and sent.

-- a command that sends these frames behind its record stops the run where the record is refused, or the frames are cut
pub stops-kept : (T : Type 0) (f : KeyedFn) (place : Place) (result : Outcome) (old new : Seen) (written : Option (List ℕ)) (frames : List FrameText) (payload : List ℕ) → frames ≡ frames_by f place result → payload ∷ [] ≡ records_by f place result
    → clash_in_hand f place result ≡ None → (stop : CommandStop) → SendsKept {T = T} payload old new frames (Err stop) → StopsIn f place result (outside_of old written) (outside_of new written) (At (command_cause stop))
stops-kept T f place result old new written frames payload same spelled no_clash (commands.LabelClash first second) sends = absurd sends
stops-kept T f place result old new written frames payload same spelled no_clash (commands.PlaceClash first second) sends = absurd sends
stops-kept T f place result old new written frames payload same spelled no_clash (commands.NumberClash first second) sends = absurd sends
stops-kept T f place result old new written frames payload same spelled no_clash commands.Memory sends = absurd sends
stops-kept T f place result old new written frames payload same spelled no_clash (commands.Keeping fault) sends = inr (inr (inl (record {
  stops = kept_stop fault;
  some = λ none. some (spelled ∙ none);
  no_clash = no_clash;
  unsent = sends.0;
  kept = elim sends.1 [ inl without ↦ inl without | inr refused ↦ inr (subst (λ payloads. new.kept ≡ with_refused payloads old.kept) spelled refused) ];
  unprinted = refl;
})))
  where
    kept_stop : (fault : DeviceFault) → (At (keep_cause fault) ≡ At says.DiskFault) ⊎ (At (keep_cause fault) ≡ At says.NoMemory)
    kept_stop devices.Failed = inl refl
    kept_stop devices.NoMemory = inr refl

    some : payload ∷ [] ≡ [] → ⊥
    some e = cc
stops-kept T f place result old new written frames payload same spelled no_clash (commands.Exchange stop) sends = inr (inr (inr (record {
  cause = command_cause (commands.Exchange stop);
  stops = refl;
  kept = subst (Keeps old.kept new.kept) spelled sends.0;
  events = sends.1.events;
  adds = sends.1.adds;
  cut = subst (λ fs. AreCut fs sends.1.events (command_cause (commands.Exchange stop))) same sends.1.cut;
  no_clash = λ _. no_clash;
  unprinted = refl;
})))

-- A setup.

-- a session that is set up stands where its history is this run
at_ready : (f : KeyedFn) (run : Run) (stage : Stage) (place : Place) → place.history ≡ Some (From at_first run) → IsReady f place.key at_first run stage → IsStage f stage place
at_ready f run (Collecting client docs) place is ready = absurd ready
at_ready f run (Searching client) place is ready = (From at_first run, is, subst (λ h. StandsFor f (keys_under place.key h) at_first run client.state) (sym is) ready)

-- and keeps the mark of its key
marks_ready : (f : KeyedFn) (run : Run) (stage : Stage) (place : Place) → place.history ≡ Some (From at_first run) → IsReady f place.key at_first run stage → place.used ≡ [] → marks_of stage ≡ mark_of f place.key ∷ [] → HasMarks f stage place
marks_ready f run (Collecting client docs) place is ready unused are = absurd ready
marks_ready f run (Searching client) place is ready unused are = are ∙ (λ i. sym unused i ++ marks_in (mark_of f) place.key (sym is i))

module _ (f : KeyedFn) (key : List ℕ) (docs : List Document) (b big pad : ℕ) where
  abbrev s : Setup
  s = setup_with docs b big pad

  module _ (place : Place) (same_key : key ≡ place.key) (same : docs ≡ place.documents) (fresh : is_set_up place.history ≡ false) where
    comes-setup : outcome place (SetupLine b big pad) ≡ unless (index_refusal docs b big pad) (SetsUp s)
    comes-setup = before place (SetupLine b big pad) fresh ∙ ap (λ ds. unless (index_refusal ds b big pad) (SetsUp (setup_with ds b big pad))) (sym same)

    comes-set_up : size_refusal s ≡ None → outcome place (SetupLine b big pad) ≡ SetsUp s
    comes-set_up none = comes-setup ∙ ap (λ r. unless (option_map size_refused r) (SetsUp s)) none

    frames_at : frames_of_setup (key_table f key s) at_first s ≡ frames_by f place (SetsUp s)
    frames_at = ap (λ k. frames_of_setup (table f s.shape (λ epoch. k)) at_first s) same_key

    clash_at : clash_in_hand f place (SetsUp s) ≡ clash_cause (label_clash f key s) (place_clash f key s)
    clash_at = ap (λ k. clash_cause (label_clash f k s) (place_clash f k s)) (sym same_key)

    records_at : setup_record (mark_of f key) s ∷ [] ≡ records_by f place (SetsUp s)
    records_at = ap (λ k. setup_record (mark_of f k) s ∷ []) same_key

    module _ (unused : place.used ≡ []) (marked : place.mark ≡ Some (mark_of f)) (accepted : build_refusal f key s ≡ None) (old new : Seen) where
      no_clash-setup : clash_in_hand f place (SetsUp s) ≡ None
      no_clash-setup = clash_at ∙ no_clash-planned f key s accepted

      takes-setup : (next : Stage) (came : LineResult) (words blocks : ℕ) → words ≡ length (words_of docs) → blocks ≡ blocks_of s → Keeps old.kept new.kept (setup_record (mark_of f key) s ∷ []) → HasExchanged old.told new.told [] (frames_of_setup (key_table f key s) at_first s)
          → line_result_view came ≡ says.SetUp words blocks ∷ [] → refuses came ≡ false → IsReady f key at_first (record { setup = s; later = [] }) next → key_of next ≡ key → hash_keys_of next ≡ hash_keys_under f place.key → marks_of next ≡ mark_of f key ∷ [] → GoesOn f old new next came place (outcome place (SetupLine b big pad))
      takes-setup next came words blocks counted counted_blocks kept x view fine ready keyed hashed are =
          subst (GoesOn f old new next came place) (sym (comes-set_up (size_accepted f key s accepted)))
          (record {
            kept = subst (Keeps old.kept new.kept) records_at kept;
            answers = [];
            sent = record {
              events = x.events;
              adds = x.adds;
              exchanged = subst (λ fs. AreExchanged [] fs x.events) frames_at x.exchanged;
              no_clash = no_clash-setup;
            };
            shown = view ∙ (λ i. says.SetUp (counted i) (counted_blocks i) ∷ []);
            refuses = fine;
            stands = record {
              key = keyed ∙ same_key;
              stands = at_ready f (record { setup = s; later = [] }) next (after (SetsUp s) place) refl (subst (λ k. IsReady f k at_first (record { setup = s; later = [] }) next) same_key ready);
              hashed = hashed;
              mark = marked;
              marks = marks_ready f (record { setup = s; later = [] }) next (after (SetsUp s) place) refl (subst (λ k. IsReady f k at_first (record { setup = s; later = [] }) next) same_key ready) unused (are ∙ ap (λ k. mark_of f k ∷ []) same_key);
            };
          })

      stops-setup : (T : Type 0) (payload : List ℕ) (stop : CommandStop) → payload ≡ setup_record (mark_of f key) s → SendsKept {T = T} payload old new (frames_of_setup (key_table f key s) at_first s) (Err stop) → (written : Option (List ℕ))
          → StopsIn f place (outcome place (SetupLine b big pad)) (outside_of old written) (outside_of new written) (At (command_cause stop))
      stops-setup T payload stop spelled sends written =
          subst (λ result. StopsIn f place result (outside_of old written) (outside_of new written) (At (command_cause stop))) (sym (comes-set_up (size_accepted f key s accepted)))
          (stops-kept T f place (SetsUp s) old new written (frames_of_setup (key_table f key s) at_first s) payload frames_at (ap (λ p. p ∷ []) spelled ∙ records_at) no_clash-setup stop sends)

    module _ (T : Type 0) (fault : BuildFault) (plan : IsRefusedPlan T f key s fault) (now : Seen) where
      -- a setup whose plan was refused is refused
      pub takes-refused_setup : (next : Stage) (came : LineResult) (shown : Refusal) → line_result_view came ≡ says.Refused shown ∷ [] → refuses came ≡ true → IsAt f next place → setup_answer fault ≡ Ok shown
          → GoesOn f now now next came place (outcome place (SetupLine b big pad))
      takes-refused_setup next came shown view refused at answer =
          subst (GoesOn f now now next came place) (sym (comes-setup ∙ ap (λ r. unless r (SetsUp s)) (refused_size f key s T fault plan shown answer)))
          (goes-refused f now next came place shown view refused at)

      -- equal labels and equal places stop the run at the setup, and so does want of memory
      pub stops-plan : (stop : CommandStop) → setup_answer fault ≡ Err stop → (written : Option (List ℕ))
          → StopsIn f place (outcome place (SetupLine b big pad)) (outside_of now written) (outside_of now written) (At (command_cause stop))
      stops-plan stop answer written =
          let why = stopped_plan f key s T fault plan stop answer in
          elim why.1 [
            | inl found ↦ subst (λ result. StopsIn f place result (outside_of now written) (outside_of now written) (At (command_cause stop))) (sym (comes-set_up why.0))
                (inl (record { cause = command_cause stop; found = clash_at ∙ found; stops = refl; nothing = refl }))
            | inr memory ↦ subst (λ x. StopsIn f place (outcome place (SetupLine b big pad)) (outside_of now written) (outside_of now written) (At (command_cause x))) (sym memory)
                (stops-memory f now place (outcome place (SetupLine b big pad)) written)
          ]

-- the key and the documents of a session that collects
abbrev pub IsCollecting : KeyedFn → List ℕ → List Document → ℕ × ℕ → Stage → Type 0
IsCollecting f key docs hash_keys stage =
    (place : Place) → IsAt f stage place → (key ≡ place.key) × (docs ≡ place.documents) × (is_set_up place.history ≡ false) × (hash_keys ≡ hash_keys_under f place.key) × (place.used ≡ []) × (place.mark ≡ Some (mark_of f))

-- those of its place, which isn't set up
pub collecting_at : (f : KeyedFn) (client : Client Fresh) (docs : Collected) (place : Place) → IsAt f (Collecting client docs) place
    → (client.key ≡ place.key) × (docs.documents ≡ place.documents) × (is_set_up place.history ≡ false) × (docs.keys ≡ hash_keys_under f place.key) × (place.used ≡ []) × (place.mark ≡ Some (mark_of f))
collecting_at f client docs place at =
    let first = key_in-before place.key place.history at.stands.1 in
    (at.key ∙ first, at.stands.0, at.stands.1, at.hashed ∙ ap (hash_keys_under f) first, at.marks, at.mark)

module _ (f : KeyedFn) (key : List ℕ) (old new : Seen) (stage : Stage) (docs : List Document) (hash_keys : ℕ × ℕ) (b big pad : ℕ) (at : IsCollecting f key docs hash_keys stage) (accepted : build_refusal f key (setup_with docs b big pad) ≡ None) where
  abbrev sent_frames : List FrameText
  sent_frames = frames_of_setup (key_table f key (setup_with docs b big pad)) at_first (setup_with docs b big pad)

  -- a setup whose sending ended is done
  pub takes_if_sent : (words blocks : ℕ) → words ≡ length (words_of docs) → blocks ≡ blocks_of (setup_with docs b big pad) → (next : Stage) (came : LineResult) → Keeps old.kept new.kept (setup_record (mark_of f key) (setup_with docs b big pad) ∷ []) → HasExchanged old.told new.told [] sent_frames
      → line_result_view came ≡ says.SetUp words blocks ∷ [] → refuses came ≡ false → IsReady f key at_first (record { setup = setup_with docs b big pad; later = [] }) next → key_of next ≡ key → hash_keys_of next ≡ hash_keys → marks_of next ≡ mark_of f key ∷ []
      → Takes f stage (SetupLine b big pad) old new next came
  takes_if_sent words blocks counted counted_blocks next came kept x view fine ready keyed hashes are = λ place a.
      let p = at place a in
      takes-setup f key docs b big pad place p.0 p.1 p.2 p.4 p.5 accepted old new next came words blocks counted counted_blocks kept x view fine ready keyed (hashes ∙ p.3) are

  -- one whose record was refused, or whose sending was cut, stops the run
  pub stops_if_sent : (T : Type 0) (payload : List ℕ) (stop : CommandStop) → payload ≡ setup_record (mark_of f key) (setup_with docs b big pad) → SendsKept {T = T} payload old new sent_frames (Err stop) → StopsWithin f stage (SetupLine b big pad) old new (command_cause stop)
  stops_if_sent T payload stop spelled sends = λ place a written.
      let p = at place a in
      stops-setup f key docs b big pad place p.0 p.1 p.2 p.4 p.5 accepted old new T payload stop spelled sends written

-- one more setup is refused
pub takes-set_up_already : (f : KeyedFn) (now : Seen) (next : Stage) (came : LineResult) (place : Place) (b big pad : ℕ) → is_set_up place.history ≡ true → line_result_view came ≡ says.Refused refusals.SetUpAlready ∷ [] → refuses came ≡ true → IsAt f next place
    → GoesOn f now now next came place (outcome place (SetupLine b big pad))
takes-set_up_already f now next came place b big pad up view fine at = subst (GoesOn f now now next came place) (sym (behind place (SetupLine b big pad) up)) (goes-refused f now next came place refusals.SetUpAlready view fine at)

-- so is a document after the setup
pub takes-doc_behind : (f : KeyedFn) (now : Seen) (next : Stage) (came : LineResult) (place : Place) (id : ℕ) (words : List (List ℕ)) → is_set_up place.history ≡ true → line_result_view came ≡ says.Refused refusals.SetUpAlready ∷ [] → refuses came ≡ true
    → IsAt f next place → GoesOn f now now next came place (outcome place (Doc id words))
takes-doc_behind f now next came place id words up view fine at = subst (GoesOn f now now next came place) (sym (behind place (Doc id words) up)) (goes-refused f now next came place refusals.SetUpAlready view fine at)

-- and what needs a setup before it
pub takes-not_set_up : (f : KeyedFn) (now : Seen) (next : Stage) (came : LineResult) (place : Place) (request : Request) → before_setup place.documents request ≡ Refuses refusals.NotSetUp → is_set_up place.history ≡ false
    → line_result_view came ≡ says.Refused refusals.NotSetUp ∷ [] → refuses came ≡ true → IsAt f next place → GoesOn f now now next came place (outcome place request)
takes-not_set_up f now next came place request early fresh view fine at = subst (GoesOn f now now next came place) (sym (before place request fresh ∙ early)) (goes-refused f now next came place refusals.NotSetUp view fine at)

-- The command of a line.

inner : (own request : Request) → Command own ≡ Command request → own ≡ request
inner own request e = cc

module _ (f : KeyedFn) (stage : Stage) (old new : Seen) (line : Line) (own : Request) (is : line ≡ Command own) (r : Result (Stage × LineResult) CommandStop) where
  pub takes_own : IfOk r (λ done. Takes f stage own old new done.0 done.1) → IfOk r (λ done. (request : Request) → line ≡ Command request → Takes f stage request old new done.0 done.1)
  takes_own = by r
    where
      by : (r : Result (Stage × LineResult) CommandStop) → IfOk r (λ done. Takes f stage own old new done.0 done.1) → IfOk r (λ done. (request : Request) → line ≡ Command request → Takes f stage request old new done.0 done.1)
      by (Ok done) t = λ request e. subst (λ q. Takes f stage q old new done.0 done.1) (inner own request (sym is ∙ e)) t
      by (Err stop) t = tt

  pub stops_own : IfErr r (λ stop. StopsWithin f stage own old new (command_cause stop)) → IfErr r (λ stop. (request : Request) → line ≡ Command request → StopsWithin f stage request old new (command_cause stop))
  stops_own = by r
    where
      by : (r : Result (Stage × LineResult) CommandStop) → IfErr r (λ stop. StopsWithin f stage own old new (command_cause stop)) → IfErr r (λ stop. (request : Request) → line ≡ Command request → StopsWithin f stage request old new (command_cause stop))
      by (Ok done) t = tt
      by (Err stop) t = λ request e. subst (λ q. StopsWithin f stage q old new (command_cause stop)) (inner own request (sym is ∙ e)) t
