-- The traffic of a history is that of its first part and then that of the steps after it, which depends only on the last epoch of the first part.
use Rattle.std.proofs.Common.{◌≡◌, ℕ, List, [], ◌∷◌, ◌++◌, None, Some, refl, sym, ap, ◌∙◌, append_assoc}
use Rattle.std.specs.Prelude.{flat_map, fold}
use Rattle.std.proofs.lemmas.List.{append-nil}
use Rattle.std.proofs.lemmas.List.Concat.{flat_map-append}
use Rattle.client_registry.proofs.HistoryLaws.{joined-longer, begins-with_commands, last_run-with_commands}
use Rattle.client_registry.proofs.OverLaws.{over-append}
use Rattle.client_registry.specs.Command.{Command}
use Rattle.client_registry.specs.Epochs.{begins, behind, first_begins, key_now, with_commands, setup_renewed, Step, Does, Renews, step_after}
use Rattle.client_registry.specs.Histories.{IsFirstOf, shown_by, shown_in_turn}
use Rattle.client_registry.specs.Over.{over}
use Rattle.client_registry.specs.Run.{Run, History, Epochs, From, Renewed, last_run}
use Rattle.keyed_fn.specs.KeyedFn.{KeyedFn}
use Rattle.def_agreement.specs.Agreement.{shown_behind}
use Rattle.sse_frames.specs.Exchange.{exchange, greeting}
use Rattle.sse_model.proofs.ExchangeLaws.{exchange-append, searches-sent, session-exchange}
use Rattle.sse_model.proofs.HistoryLaws.{frames_sent-longer, frames_sent-renewed}
use Rattle.sse_model.specs.Histories.{frames_sent, frames_behind, table_at}
use Rattle.sse_model.specs.Names.{table}
use Rattle.sse_model.specs.Transcript.{session}
use Rattle.sse_model.specs.Wire.{frames_of_setup}
use Rattle.def_script_meaning.specs.Since.{frames_of_step, frames_since, last_epoch, records_of_step, records_since, shown_of_step, shown_since}
use Rattle.def_script_meaning.specs.Recorded.{records_in}
use Rattle.def_script_meaning.proofs.Recorded.{records-longer}
use Rattle.def_script_meaning.proofs.Whole.{first_begins-step}

-- a history that begins with these epochs is they with steps after them
pub since : (es : Epochs) (h : History) → IsFirstOf (Some es) h → (more : List Step) × (h ≡ Some (fold step_after es more))
since es None first = absurd first
since es (Some whole) first = (first.0, ap (λ es. Some es) first.1)

pub first-since : (es : Epochs) (more : List Step) → IsFirstOf (Some es) (Some (fold step_after es more))
first-since es more = (more, refl)

-- steps leave where the first epoch begins
pub begins-since : (es : Epochs) (more : List Step) → first_begins (fold step_after es more) ≡ first_begins es
begins-since es [] = refl
begins-since es (step ∷ more) = begins-since (step_after es step) more ∙ first_begins-step es step

module _ (f : KeyedFn) (key : List ℕ) where
  frames_sent-step : (es : Epochs) (step : Step) → frames_sent f key (Some (step_after es step)) ≡ frames_sent f key (Some es) ++ frames_of_step f key es step
  frames_sent-step es (Does c) = frames_sent-longer f key (Some es) (c ∷ [])
  frames_sent-step es (Renews own) = frames_sent-renewed f key (Some es) own

  -- the frames
  pub frames_sent-since : (es : Epochs) (more : List Step) → frames_sent f key (Some (fold step_after es more)) ≡ frames_sent f key (Some es) ++ frames_since f key es more
  frames_sent-since es [] = sym (append-nil (frames_sent f key (Some es)))
  frames_sent-since es (step ∷ more) =
      frames_sent-since (step_after es step) more
      ∙ ap (λ front. front ++ frames_since f key (step_after es step) more) (frames_sent-step es step)
      ∙ append_assoc (frames_sent f key (Some es)) (frames_of_step f key es step) (frames_since f key (step_after es step) more)

  -- the records
  records-step : (es : Epochs) (step : Step) → records_in f key (Some (step_after es step)) ≡ records_in f key (Some es) ++ records_of_step f step
  records-step es (Does c) = records-longer f key (Some es) (c ∷ []) refl
  records-step es (Renews own) = refl

  pub records_in-since : (es : Epochs) (more : List Step) → records_in f key (Some (fold step_after es more)) ≡ records_in f key (Some es) ++ records_since f more
  records_in-since es [] = sym (append-nil (records_in f key (Some es)))
  records_in-since es (step ∷ more) =
      records_in-since (step_after es step) more
      ∙ ap (λ front. front ++ records_since f more) (records-step es step)
      ∙ append_assoc (records_in f key (Some es)) (records_of_step f step) (records_since f more)

-- what its searches show
shown_over : (run : Run) (cs : List Command) → flat_map (λ r. r) (over (shown_by run.setup) [] (run.later ++ cs)) ≡ flat_map (λ r. r) (over (shown_by run.setup) [] run.later) ++ flat_map (λ r. r) (over (shown_by run.setup) run.later cs)
shown_over run cs = ap (flat_map (λ r. r)) (over-append (shown_by run.setup) [] run.later cs) ∙ flat_map-append (λ r. r) (over (shown_by run.setup) [] run.later) (over (shown_by run.setup) run.later cs)

shown_in_turn-step : (es : Epochs) (step : Step) → shown_in_turn (Some (step_after es step)) ≡ shown_in_turn (Some es) ++ shown_of_step es step
shown_in_turn-step es (Does c) =
    joined-longer (λ key o run. flat_map (λ r. r) (over (shown_by run.setup) [] run.later)) (λ key o run cs. flat_map (λ r. r) (over (shown_by run.setup) run.later cs)) (λ key o run cs. shown_over run cs) [] es (c ∷ [])
shown_in_turn-step es (Renews own) = refl

pub shown_in_turn-since : (es : Epochs) (more : List Step) → shown_in_turn (Some (fold step_after es more)) ≡ shown_in_turn (Some es) ++ shown_since es more
shown_in_turn-since es [] = sym (append-nil (shown_in_turn (Some es)))
shown_in_turn-since es (step ∷ more) =
    shown_in_turn-since (step_after es step) more
    ∙ ap (λ front. front ++ shown_since (step_after es step) more) (shown_in_turn-step es step)
    ∙ append_assoc (shown_in_turn (Some es)) (shown_of_step es step) (shown_since (step_after es step) more)

-- all that passes
pub session-since : (f : KeyedFn) (key : List ℕ) (es : Epochs) (more : List Step)
    → session f key (Some (fold step_after es more)) ≡ session f key (Some es) ++ exchange (shown_since es more) (frames_since f key es more)
session-since f key es more =
    session-exchange f key (Some (fold step_after es more))
    ∙ (λ i. greeting 0 ++ exchange (shown_in_turn-since es more i) (frames_sent-since f key es more i))
    ∙ ap (λ rest. greeting 0 ++ rest) (exchange-append (frames_sent f key (Some es)) (frames_since f key es more) (shown_in_turn (Some es)) (shown_since es more) (sym (searches-sent f key (Some es))))
    ∙ sym (append_assoc (greeting 0) (exchange (shown_in_turn (Some es)) (frames_sent f key (Some es))) (exchange (shown_since es more) (frames_since f key es more)))
    ∙ ap (λ front. front ++ exchange (shown_since es more) (frames_since f key es more)) (sym (session-exchange f key (Some es)))

-- The last epoch alone.

-- two histories whose last epochs have the same key, begin at the same place and are the same run
record EndAlike (k m : List ℕ) (es fs : Epochs) : Type 0 where
  keys : key_now k es ≡ key_now m fs
  places : begins es ≡ begins fs
  runs : last_run es ≡ last_run fs

key_now-with_commands : (k : List ℕ) (es : Epochs) (cs : List Command) → key_now k (with_commands cs es) ≡ key_now k es
key_now-with_commands k (From o run) cs = refl
key_now-with_commands k (Renewed before own run) cs = refl

alike-step : (k m : List ℕ) (es fs : Epochs) (step : Step) → EndAlike k m es fs → EndAlike k m (step_after es step) (step_after fs step)
alike-step k m es fs (Does c) a = record {
  keys = key_now-with_commands k es (c ∷ []) ∙ a.keys ∙ sym (key_now-with_commands m fs (c ∷ []));
  places = begins-with_commands (c ∷ []) es ∙ a.places ∙ sym (begins-with_commands (c ∷ []) fs);
  runs = last_run-with_commands (c ∷ []) es ∙ (λ i. record { setup = (a.runs i).setup; later = (a.runs i).later ++ c ∷ [] }) ∙ sym (last_run-with_commands (c ∷ []) fs);
}
alike-step k m es fs (Renews own) a = record {
  keys = refl;
  places = λ i. behind (a.places i) (a.runs i);
  runs = λ i. record { setup = setup_renewed (a.runs i); later = [] };
}

alike-frames : (f : KeyedFn) (k m : List ℕ) (es fs : Epochs) (step : Step) → EndAlike k m es fs → frames_of_step f k es step ≡ frames_of_step f m fs step
alike-frames f k m es fs (Does c) a = λ i. frames_behind (table_at f (a.keys i) (a.runs i)) (a.places i) (a.runs i) (c ∷ [])
alike-frames f k m es fs (Renews own) a = λ i. frames_of_setup (table f (a.runs i).setup.shape (λ epoch. own)) (behind (a.places i) (a.runs i)) (setup_renewed (a.runs i))

alike-shown : (k m : List ℕ) (es fs : Epochs) (step : Step) → EndAlike k m es fs → shown_of_step es step ≡ shown_of_step fs step
alike-shown k m es fs (Does c) a = λ i. shown_behind (a.runs i) (c ∷ [])
alike-shown k m es fs (Renews own) a = refl

frames_since-alike : (f : KeyedFn) (k m : List ℕ) (es fs : Epochs) (more : List Step) → EndAlike k m es fs → frames_since f k es more ≡ frames_since f m fs more
frames_since-alike f k m es fs [] a = refl
frames_since-alike f k m es fs (step ∷ more) a = λ i. alike-frames f k m es fs step a i ++ frames_since-alike f k m (step_after es step) (step_after fs step) more (alike-step k m es fs step a) i

shown_since-alike : (k m : List ℕ) (es fs : Epochs) (more : List Step) → EndAlike k m es fs → shown_since es more ≡ shown_since fs more
shown_since-alike k m es fs [] a = refl
shown_since-alike k m es fs (step ∷ more) a = λ i. alike-shown k m es fs step a i ++ shown_since-alike k m (step_after es step) (step_after fs step) more (alike-step k m es fs step a) i

module _ (f : KeyedFn) (key : List ℕ) (es : Epochs) where
  alone : EndAlike key (key_now key es) es (last_epoch es)
  alone = record { keys = refl; places = refl; runs = refl }

  pub frames_since-last : (more : List Step) → frames_since f key es more ≡ frames_since f (key_now key es) (last_epoch es) more
  frames_since-last more = frames_since-alike f key (key_now key es) es (last_epoch es) more alone

  pub shown_since-last : (more : List Step) → shown_since es more ≡ shown_since (last_epoch es) more
  shown_since-last more = shown_since-alike key (key_now key es) es (last_epoch es) more alone

  -- so a session that resumes, knowing the last epoch, its key and where it begins, is the rest of the whole history's
  pub session-last : (more : List Step) → session f key (Some (fold step_after es more)) ≡ session f key (Some es) ++ exchange (shown_since (last_epoch es) more) (frames_since f (key_now key es) (last_epoch es) more)
  session-last more = session-since f key es more ∙ (λ i. session f key (Some es) ++ exchange (shown_since-last more i) (frames_since-last more i))
