-- The commands after a setup.
use Rattle.std.specs.Prelude.{ℕ, Bool, true, false, List}
use Rattle.client_registry.specs.Document.{Document}

-- a command after the setup
pub data Command : Type 0 where
  -- a document becomes live
  Add : Document → Command
  -- the live document of this identifier is no more
  Delete : ℕ → Command
  -- the live documents with this word are asked for
  Search : List ℕ → Command

-- whether a command is an update, which has a frame of its own; a search changes nothing
abbrev pub is_update : Command → Bool
is_update (Add d) = true
is_update (Delete id) = true
is_update (Search word) = false
