-- One of the two histories of a duel, and what is known of its next command.
use Rattle.std.specs.Prelude.{◌≡◌, ◌≢◌, ℕ, List, [], ◌∷◌, ◌++◌, length, Some}
use Rattle.client_registry.specs.Document.{Document}
use Rattle.client_registry.specs.Epochs.{begins, next_begins}
use Rattle.client_registry.specs.Histories.{IsKept, IsWhole}
use Rattle.client_registry.specs.Run.{History, Epochs, last_run}
use Rattle.client_registry.specs.Setup.{Setup}
use Rattle.def_duel.specs.Choices.{Choice, grown}
use Rattle.def_leakage.specs.Histories.{leak_in}
use Rattle.leakage_history.specs.HashedEpochs.{epochs_in}
use Rattle.leakage_model.specs.TrailFacts.{Follows}
use Rattle.sse_simulator.specs.Leaks.{Leak}
use Rattle.sse_game.specs.declared.side.Side.{Side}

-- the history of a side
abbrev pub epochs_at : Side → Epochs
epochs_at s = epochs_in s.epochs

abbrev pub history_at : Side → History
history_at s = Some (epochs_at s)

-- the setup of these documents with the parameters of another
abbrev pub set_up_like : List Document → Setup → Setup
set_up_like docs s = record { documents = docs; shape = s.shape; pad = s.pad }

-- it has the numbers of the next command and of the next update frame, and keeps the rules of a history
pub record IsNumbered (s : Side) : Type 0 where
  pub commands : s.commands ≡ (next_begins (epochs_at s)).command
  pub frames : s.frames ≡ (next_begins (epochs_at s)).frame
  pub whole : IsWhole (history_at s)
  pub kept : IsKept (history_at s)

-- and its trail follows the last epoch
pub record IsSide (s : Side) : Type 0 where
  pub numbers : IsNumbered s
  pub trail : Follows s.trail (begins (epochs_at s)) (last_run (epochs_at s)).setup (last_run (epochs_at s)).later

-- it is a history with this command more, which leaks this
pub record HasTaken (before : History) (choice : Choice) (s : Side) (leak : Leak) : Type 0 where
  pub side : IsSide s
  pub after : history_at s ≡ grown before choice
  pub leaks : leak_in (grown before choice) ≡ leak_in before ++ leak ∷ []

-- a history with this command more leaks something else than this, at the command of this number
pub record LeaksOther (k : ℕ) (before : History) (choice : Choice) (leak : Leak) : Type 0 where
  pub own : Leak
  pub number : k ≡ length (leak_in before)
  pub leaks : leak_in (grown before choice) ≡ leak_in before ++ own ∷ []
  pub other : leak ≢ own
