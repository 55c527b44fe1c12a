-- The traffic and the records of commands and renewals after a history of any epochs, and the last epoch by itself.
use Rattle.std.specs.Prelude.{ℕ, List, [], ◌∷◌, ◌++◌, flat_map, Some}
use Rattle.client_records.specs.Recorded.{recorded}
use Rattle.client_records.specs.Records.{renewal_record}
use Rattle.client_registry.specs.Epochs.{Step, Does, Renews, begins, step_after}
use Rattle.client_registry.specs.Run.{Epochs, From, last_run}
use Rattle.keyed_fn.specs.KeyFormulas.{mark_of}
use Rattle.keyed_fn.specs.KeyedFn.{KeyedFn}
use Rattle.def_agreement.specs.Agreement.{shown_behind}
use Rattle.sse_frames.specs.Frames.{FrameText}
use Rattle.sse_model.specs.Histories.{frames_of_next, frames_of_renewal}

-- the frames of one step after a history, the first of whose epochs has this key
abbrev pub frames_of_step : KeyedFn → (key : List ℕ) → Epochs → Step → List FrameText
frames_of_step f key es (Does c) = frames_of_next f key (Some es) (c ∷ [])
frames_of_step f key es (Renews own) = frames_of_renewal f own (Some es)

-- of several
abbrev pub frames_since : KeyedFn → (key : List ℕ) → Epochs → List Step → List FrameText
frames_since f key es [] = []
frames_since f key es (step ∷ more) = frames_of_step f key es step ++ frames_since f key (step_after es step) more

-- what the searches among them show
abbrev pub shown_of_step : Epochs → Step → List (List ℕ)
shown_of_step es (Does c) = shown_behind (last_run es) (c ∷ [])
shown_of_step es (Renews own) = []

abbrev pub shown_since : Epochs → List Step → List (List ℕ)
shown_since es [] = []
shown_since es (step ∷ more) = shown_of_step es step ++ shown_since (step_after es step) more

-- and the records that they leave
abbrev pub records_of_step : KeyedFn → Step → List (List ℕ)
records_of_step f (Does c) = recorded (c ∷ [])
records_of_step f (Renews own) = renewal_record (mark_of f own) ∷ []

abbrev pub records_since : KeyedFn → List Step → List (List ℕ)
records_since f more = flat_map (records_of_step f) more

-- the last of these epochs by itself: a session that goes on after a history knows no more of it
abbrev pub last_epoch : Epochs → Epochs
last_epoch es = From (begins es) (last_run es)
