-- A history: a run, and the numbers under which its tables hash.
use Rattle.std.specs.Prelude.{ℕ, List}
use Rattle.client_registry.specs.Command.{Command}
use Rattle.client_registry.specs.Run.{Run, Epochs, From, at_first}
use Rattle.client_registry.specs.Setup.{Setup}

-- a setup, the commands after it, and the two numbers under which words and identifiers are hashed
pub record HashedRun : Type 0 where
  pub setup : Setup
  pub later : List Command
  pub keys : ℕ × ℕ

-- the run alone
abbrev pub run_of : HashedRun → Run
run_of h = record { setup = h.setup; later = h.later }

-- the epochs of its history: there is one
abbrev pub epochs_of : HashedRun → Epochs
epochs_of h = From at_first (run_of h)
