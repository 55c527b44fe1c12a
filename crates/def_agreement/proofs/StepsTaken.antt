-- A server that holds what the last epoch of a history leaves, however it came to that, takes the frames of more commands and renewals,
-- replies to them with what the searches among them show, and then holds what the last epoch of all leaves.
use Rattle.std.proofs.Common.{◌≡◌, ℕ, ◌+◌, List, [], ◌∷◌, ◌++◌, length, Some, refl, sym, ap, ◌∙◌, subst, arith, length-append}
use Rattle.std.specs.Prelude.{flat_map, fold}
use Rattle.std.proofs.lemmas.List.{append-nil}
use Rattle.client_registry.proofs.HistoryLaws.{IsHistory-last, before_steps}
use Rattle.client_registry.specs.Acceptance.{frames_needed}
use Rattle.client_registry.specs.Command.{Command, Add, Delete, Search}
use Rattle.client_registry.specs.Epochs.{begins, next_begins, key_now, AreEpochs, setup_renewed, with_commands, with_renewal, Step, Does, Renews, step_after}
use Rattle.client_registry.specs.Histories.{shown_by}
use Rattle.client_registry.specs.Run.{Run, Offsets, Epochs, From, Renewed, last_run, at_first}
use Rattle.client_registry.specs.Sized.{IsHistory}
use Rattle.client_registry.proofs.SizedLaws.{IsHistory-front}
use Rattle.keyed_fn.specs.KeyedFn.{KeyedFn, IsKeyedFn}
use Rattle.server_core.proofs.Laws.{steps-append}
use Rattle.server_core.specs.State.{ServerState}
use Rattle.server_core.specs.Step.{steps}
use Rattle.def_agreement.proofs.Agreement.{commands_taken, server_agrees}
use Rattle.def_agreement.proofs.Histories.{Expects-next, run_behind, replied-append, replied-run}
use Rattle.def_agreement.proofs.TakenFrames.{steps-taken}
use Rattle.def_agreement.specs.Agreement.{shown_behind, frames_fed}
use Rattle.def_agreement.specs.Held.{Holds}
use Rattle.sse_frames.specs.Exchange.{replied, searches}
use Rattle.sse_frames.specs.Frames.{FrameText}
use Rattle.sse_model.proofs.ExchangeLaws.{searches-setup, searches_behind-update}
use Rattle.sse_model.proofs.HistoryLaws.{free-back}
use Rattle.sse_model.specs.Drawn.{IsCollisionFree}
use Rattle.sse_model.specs.Histories.{table_at, frames_behind, frames_of_next, frames_of_renewal, HasNoCollision}
use Rattle.sse_model.specs.Names.{table}

-- the frames of one step after a history, and of several
abbrev pub frames_of_step : KeyedFn → (key : List ℕ) → Epochs → Step → List FrameText
frames_of_step f key es (Does c) = frames_of_next f key (Some es) (c ∷ [])
frames_of_step f key es (Renews own) = frames_of_renewal f own (Some es)

abbrev pub frames_since : KeyedFn → (key : List ℕ) → Epochs → List Step → List FrameText
frames_since f key es [] = []
frames_since f key es (step ∷ more) = frames_of_step f key es step ++ frames_since f key (step_after es step) more

-- what the searches among them show
abbrev pub shown_by_step : Epochs → Step → List (List ℕ)
shown_by_step es (Does c) = shown_behind (last_run es) (c ∷ [])
shown_by_step es (Renews own) = []

abbrev pub shown_since : Epochs → List Step → List (List ℕ)
shown_since es [] = []
shown_since es (step ∷ more) = shown_by_step es step ++ shown_since (step_after es step) more

-- a server holds what the last epoch leaves
abbrev pub HoldsNow : KeyedFn → (key : List ℕ) → Epochs → ServerState → Type 0
HoldsNow f key es state = Holds (table_at f (key_now key es) (last_run es)) (begins es) (last_run es).setup (last_run es).later state

-- what it replies, and what it holds then
pub record HasGone (f : KeyedFn) (key : List ℕ) (es next : Epochs) (frames : List FrameText) (shown : List (List ℕ)) (start : ServerState) : Type 0 where
  pub replies : (steps f start frames).1 ≡ replied shown frames
  pub holds : HoldsNow f key next (steps f start frames).0

module _ (f : KeyedFn) (laws : IsKeyedFn f) (key : List ℕ) where
  one_command : (own : List ℕ) (o : Offsets) (run : Run) (c : Command) (start : ServerState) → IsHistory (record { setup = run.setup; later = run.later ++ c ∷ [] })
      → IsCollisionFree (table_at f own run) o (record { setup = run.setup; later = run.later ++ c ∷ [] }) → Holds (table_at f own run) o run.setup run.later start
      → Holds (table_at f own run) o run.setup (run.later ++ c ∷ []) (steps f start (frames_behind (table_at f own run) o run (c ∷ []))).0
  one_command own o run c start history free held =
      let all = commands_taken f (λ epoch. own) o run (c ∷ []) start laws history free held in
      subst (Holds (table_at f own run) o run.setup (run.later ++ c ∷ [])) (sym (ap (λ r. r.0) (steps-taken f start (frames_behind (table_at f own run) o run (c ∷ [])) all.1.each ∙ all.1.leaves))) all.2

  one_step : (es : Epochs) (step : Step) (start : ServerState) → AreEpochs (step_after es step) → HasNoCollision f key (Some (step_after es step)) → HoldsNow f key es start
      → HasGone f key es (step_after es step) (frames_of_step f key es step) (shown_by_step es step) start
  one_step (From o run) (Does c) start are free held = record {
    replies = run_behind f laws key o run (c ∷ []) start are free held;
    holds = one_command key o run c start are free held;
  }
  one_step (Renewed before own run) (Does c) start are free held = record {
    replies = run_behind f laws own (next_begins before) run (c ∷ []) start are.2 free.1 held;
    holds = one_command own (next_begins before) run c start are.2 free.1 held;
  }
  one_step es (Renews own) start are free held =
      let run : Run = record { setup = setup_renewed (last_run es); later = [] } in
      let o = next_begins es in
      let agrees = server_agrees f (λ epoch. own) o run start laws are.2 free.1 (Expects-next (table_at f (key_now key es) (last_run es)) (begins es) (last_run es) start held) in
      let same : frames_fed (table_at f own run) o run ≡ frames_of_renewal f own (Some es) = append-nil (frames_of_renewal f own (Some es)) in record {
        replies = ap (λ fs. (steps f start fs).1) (sym same) ∙ agrees.replies ∙ sym (replied-run (table_at f own run) o run) ∙ ap (replied []) same;
        holds = subst (λ fs. Holds (table_at f own run) o run.setup [] (steps f start fs).0) same agrees.holds;
      }

  searches_step : (es : Epochs) (step : Step) → searches (frames_of_step f key es step) ≡ length (shown_by_step es step)
  searches_step es (Does (Add d)) = refl
  searches_step es (Does (Delete id)) = refl
  searches_step es (Does (Search word)) = refl
  searches_step es (Renews own) = let s = setup_renewed (last_run es) in searches-setup (table f s.shape (λ epoch. own)) (next_begins es) s

  are-back : (es : Epochs) (step : Step) → AreEpochs (step_after es step) → AreEpochs es
  are-back (From o run) (Does c) are = IsHistory-front run.setup run.later (c ∷ []) are
  are-back (Renewed before own run) (Does c) are = (are.0, are.1, IsHistory-front run.setup run.later (c ∷ []) are.2)
  are-back es (Renews own) are = are.0

  -- over any commands and renewals
  pub steps_gone : (es : Epochs) (more : List Step) (start : ServerState) → AreEpochs (fold step_after es more) → HasNoCollision f key (Some (fold step_after es more)) → HoldsNow f key es start
      → HasGone f key es (fold step_after es more) (frames_since f key es more) (shown_since es more) start
  steps_gone es [] start are free held = record { replies = refl; holds = held }
  steps_gone es (step ∷ more) start are free held =
      let next = step_after es step in
      let front = frames_of_step f key es step in
      let rest = frames_since f key next more in
      let one = one_step es step start (before_steps AreEpochs are-back next more are) (before_steps (λ xs. HasNoCollision f key (Some xs)) (free-back f key) next more free) held in
      let later = steps_gone next more (steps f start front).0 are free one.holds in
      let all = steps-append f start front rest in record {
        replies = ap (λ r. r.1) all ∙ (λ i. one.replies i ++ later.replies i) ∙ sym (replied-append (shown_by_step es step) (shown_since next more) front rest (sym (searches_step es step)));
        holds = subst (HoldsNow f key (fold step_after next more)) (sym (ap (λ r. r.0) all)) later.holds;
      }
