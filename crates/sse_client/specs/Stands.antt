-- The place of a session in its script, the effect of a command there, and the end of a run.
use Rattle.std.specs.Prelude.{◌≡◌, ◌≢◌, ◌⊎◌, Bool, true, false, List, [], ◌∷◌, ℕ, map, Option, Some, None}
use Rattle.std.specs.Option.{option_or}
use Rattle.client_core.specs.StandsFor.{StandsFor}
use Rattle.client_registry.specs.Acceptance.{size_refusal}
use Rattle.client_registry.specs.Histories.{is_set_up}
use Rattle.client_registry.specs.Live.{in_order}
use Rattle.client_registry.specs.Epochs.{begins}
use Rattle.client_registry.specs.Run.{History, Run, Offsets, Epochs, last_run}
use Rattle.client_registry.specs.Setup.{setup_with}
use Rattle.keyed_fn.specs.KeyFormulas.{mark_of}
use Rattle.keyed_fn.specs.KeyedFn.{KeyedFn}
use Rattle.sse_script.specs.Shown.{Cause, BadWords, NoMemory}
use Rattle.sse_model.specs.Epochs.{key_in}
use Rattle.def_script_meaning.specs.Carries.{Keeps, Outside, keys_at, records_by, with_answers, IsSent, Carries, StopsIn, IsUnprinted}
use Rattle.sse_outside.specs.Kept.{Kept}
use Rattle.def_script_meaning.specs.Exchange.{Told}
use Rattle.def_script_meaning.specs.Lines.{Request}
use Rattle.def_script_meaning.specs.Outcome.{Place, Outcome, marks_so_far, used_refusal, setup_after, outcome, after, shown_by, is_refusal}
use Rattle.script_documents.specs.Refused.{bad_word}
use Rattle.def_script_meaning.specs.Refused.{delete_refusal, live_refusal}
use Rattle.def_script_meaning.specs.Runs.{ended, Moment, RunsFrom, OpensFrom}
use Rattle.def_script_meaning.specs.Stops as ends
use Rattle.sse_script.specs.Lines.{Line, Doc, SetupLine, AddLine, Del, Find, Query, Rebuild}
use Rattle.sse_client.specs.Stages.{key_of, hash_keys_of, hash_keys_under, marks_of}
use Rattle.script_run_texts.specs.LineResultViews.{line_result_view, refuses}
use Rattle.script_run_texts.specs.Stops.{command_cause, input_cause}
use Rattle.script_run_texts.specs.declared.line_result.LineResult.{LineResult}
use Rattle.sse_client.specs.declared.lines.Refusals.{Refusals}
use Rattle.sse_client.specs.declared.lines.Refusals.TheVariants as refusals
use Rattle.sse_client.specs.declared.session.Stage.{Stage}
use Rattle.sse_client.specs.declared.session.Stage.TheVariants.{Collecting, Searching}
use Rattle.script_run_texts.specs.declared.stop_cause.StopCause.{StopCause}
use Rattle.script_run_texts.specs.declared.stop_cause.StopCause.TheVariants as stops

-- a session that is set up stands for this run, which begins there under this key
abbrev pub IsReady : KeyedFn → List ℕ → Offsets → Run → Stage → Type 0
IsReady f key o run (Collecting client docs) = ⊥
IsReady f key o run (Searching client) = StandsFor f (λ epoch. key) o run client.state

-- a session collects the documents of a place that isn't set up, and after the setup it stands for the history of the place
abbrev pub IsStage : KeyedFn → Stage → Place → Type 0
IsStage f (Collecting client docs) place = (docs.documents ≡ place.documents) × (is_set_up place.history ≡ false)
IsStage f (Searching client) place = (es : Epochs) × (place.history ≡ Some es) × StandsFor f (keys_at place) (begins es) (last_run es) client.state

-- it keeps the marks of the keys of all epochs up to the place; before the setup there is none
abbrev pub HasMarks : KeyedFn → Stage → Place → Type 0
HasMarks f (Collecting client docs) place = place.used ≡ []
HasMarks f (Searching client) place = marks_of (Searching client) ≡ marks_so_far (mark_of f) place

-- a session stands at a place of its script, under the key of the last epoch, and hashes under numbers that are made of that key; a new
-- key is compared by its mark with those before
pub record IsAt (f : KeyedFn) (stage : Stage) (place : Place) : Type 0 where
  pub key : key_of stage ≡ key_in place.key place.history
  pub stands : IsStage f stage place
  pub hashed : hash_keys_of stage ≡ hash_keys_under f (key_in place.key place.history)
  pub mark : place.mark ≡ Some (mark_of f)
  pub marks : HasMarks f stage place

-- a session may stop in this line: no refusal stands that is found without memory, as those of the stage, of the identifier
-- zero, of a setup's size, of a bad word, of a deletion, and of a rebuild's key or its count of documents or pairs. A query is read in
-- memory, so all its refusals may be missed
abbrev pub MayStop : KeyedFn → Stage → Line → Type 0
MayStop f (Collecting client docs) (Doc id words) = id ≢ 0
MayStop f (Collecting client docs) (SetupLine b big pad) = size_refusal (setup_with docs.documents b big pad) ≡ None
MayStop f (Searching client) (AddLine id words) = id ≢ 0
MayStop f (Searching client) (Del id) = (place : Place) → IsAt f (Searching client) place → delete_refusal place.history id ≡ None
MayStop f (Searching client) (Find word) = bad_word 0 (word ∷ []) ≡ None
MayStop f (Searching client) (Query fields) = Unit {0}
MayStop f (Searching client) (Rebuild key) =
    (place : Place) → IsAt f (Searching client) place → option_or (used_refusal place.mark place key) (live_refusal (setup_after place.history).documents) ≡ None
MayStop f _ _ = ⊥

-- what is seen of a session but for what it prints: what the link told, and the records that are kept
pub record Seen : Type 0 where
  pub told : Told
  pub kept : Kept

abbrev pub seen : Told → Kept → Seen
seen told kept = record { told = told; kept = kept }

-- a session goes on at this stage, with this outcome of a command: it kept the records of what the command comes to at this
-- place, exchanged all frames of that, and shows it with the answers that came to its searches
pub record GoesOn (f : KeyedFn) (old new : Seen) (next : Stage) (came : LineResult) (place : Place) (result : Outcome) : Type 0 where
  pub kept : Keeps old.kept new.kept (records_by f place result)
  pub answers : List (List ℕ)
  pub sent : IsSent f place result old.told new.told answers
  pub shown : line_result_view came ≡ with_answers (map in_order answers) (shown_by result)
  pub refuses : refuses came ≡ is_refusal result
  pub stands : IsAt f next (after result place)

-- wherever a session may stand, it does with a command what is to be done there
abbrev pub Takes : KeyedFn → Stage → Request → Seen → Seen → Stage → LineResult → Type 0
Takes f stage request old new next came = (place : Place) → IsAt f stage place → GoesOn f old new next came place (outcome place request)

-- what is seen of a run
abbrev pub outside_of : Seen → Option (List ℕ) → Outside
outside_of now written = record { told = now.told; kept = now.kept; written = written }

-- wherever a session may stand, a command stops the run there, for this cause, and prints nothing
abbrev pub StopsWithin : KeyedFn → Stage → Request → Seen → Seen → Cause → Type 0
StopsWithin f stage request old new cause =
    (place : Place) → IsAt f stage place → (written : Option (List ℕ)) → StopsIn f place (outcome place request) (outside_of old written) (outside_of new written) (ends.At cause)

-- what stopped a run before the end of its script
abbrev pub stop_view : StopCause → ends.Stop
stop_view stops.Words = ends.At BadWords
stop_view (stops.Input stop) = ends.At (input_cause stop)
stop_view stops.Sink = ends.SinkFault
stop_view stops.Memory = ends.At NoMemory
stop_view (stops.Command stop) = ends.At (command_cause stop)

-- a command is carried out: all its frames were exchanged and its lines printed, and the session goes on after it
pub record HasCarried (f : KeyedFn) (place : Place) (result : Outcome) (now next : Outside) (stage : Stage) (refused : Bool) : Type 0 where
  pub carries : Carries f place result now next
  pub stands : IsAt f stage (after result place)
  pub refuses : refused ≡ is_refusal result

-- wherever a session may stand, a command is carried out there
abbrev pub CarriesOut : KeyedFn → Stage → Request → Outside → Outside → Stage → Bool → Type 0
CarriesOut f stage request now next went refused = (place : Place) → IsAt f stage place → HasCarried f place (outcome place request) now next went refused

-- wherever a session may stand, a command stops the run there, before its printing or in it
abbrev pub StopsRun : KeyedFn → Stage → Request → Outside → Outside → ends.Stop → Type 0
StopsRun f stage request now end stop = (place : Place) → IsAt f stage place → StopsIn f place (outcome place request) now end stop ⊎ IsUnprinted f place (outcome place request) now end stop

-- whether a command was refused
abbrev pub has_refused : Refusals → Bool
has_refused refusals.None = false
has_refused refusals.Some = true

-- a run from this moment ends so, with the history up to there
abbrev pub EndsFrom : KeyedFn → Moment → Outside → ends.Stop → Type 0
EndsFrom f start end stop = (h : History) × RunsFrom f start (ended end (Some start.place.key) h stop)

-- a run over these lines, from before its key line, ends so, with the key and the history up to there
abbrev pub OpensTo : KeyedFn → Option (List (List ℕ)) → Outside → Outside → ends.Stop → Type 0
OpensTo f left now end stop = (key : Option (List ℕ)) × (h : History) × OpensFrom f 1 left now (ended end key h stop)
