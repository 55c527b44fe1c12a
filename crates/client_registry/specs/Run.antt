-- A setup with commands after it, and where it begins in a longer history.
use Rattle.std.specs.Prelude.{ℕ, List, Option}
use Rattle.client_registry.specs.Command.{Command}
use Rattle.client_registry.specs.Setup.{Setup}

-- a setup and the commands after it
pub record Run : Type 0 where
  pub setup : Setup
  pub later : List Command

-- where a run begins: its epoch, the number of its first command, and that of its first update frame
pub record Offsets : Type 0 where
  pub epoch : ℕ
  pub command : ℕ
  pub frame : ℕ

-- the offsets of a whole history
abbrev pub at_first : Offsets
at_first = record { epoch = 0; command = 0; frame = 0 }

-- the epochs of a history, the last one outside: a run from these offsets on, which are 0 in a whole history; then for each
-- renewal of the key that key, and the run that begins with it
pub data Epochs : Type 0 where
  From : (begins : Offsets) (run : Run) → Epochs
  Renewed : (before : Epochs) (key : List ℕ) (run : Run) → Epochs

-- the run of the last epoch
abbrev pub last_run : Epochs → Run
last_run (From o run) = run
last_run (Renewed before key run) = run

-- a history: its epochs, or nothing before the setup
abbrev pub History : Type 0
History = Option Epochs
