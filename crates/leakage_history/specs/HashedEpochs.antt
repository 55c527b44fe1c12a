-- The epochs of a history: those that a renewal of the key ended, and the last one.
use Rattle.std.specs.Prelude.{ℕ, List, [], ◌∷◌, ◌++◌, fold}
use Rattle.client_registry.specs.Epochs.{joined}
use Rattle.client_registry.specs.Run.{Run, Epochs, From, Renewed, at_first}
use Rattle.leakage_history.specs.HashedRun.{HashedRun, run_of}
use Rattle.leakage_history.specs.declared.epochs.Ended.{Ended}

pub record HashedEpochs : Type 0 where
  -- each with the key of the next one
  pub before : List Ended
  pub last : HashedRun

-- an epoch that ended, with the key of the next one
abbrev pub ended_with : HashedRun → List ℕ → Ended
ended_with history key = record { history = history; key = key }

-- a run after an epoch that ended, where this makes the epochs of that epoch's run
abbrev pub renewed_after : (Run → Epochs) → Ended → Run → Epochs
renewed_after front ended run = Renewed (front (run_of ended.history)) ended.key run

-- the epochs of a run after those that ended
abbrev pub epochs_with : List Ended → Run → Epochs
epochs_with before = fold renewed_after (λ run. From at_first run) before

-- the epochs of the definitions
abbrev pub epochs_in : HashedEpochs → Epochs
epochs_in h = epochs_with h.before (run_of h.last)

-- the runs of epochs, in turn
abbrev pub runs_of : Epochs → List Run
runs_of es = joined (λ key o run. run ∷ []) [] es

-- the master keys of their renewals, in turn
abbrev pub renewal_keys : Epochs → List (List ℕ)
renewal_keys (From o run) = []
renewal_keys (Renewed before key run) = renewal_keys before ++ key ∷ []
