-- The commands of which a client's journal keeps records, and the history that they make.
use Rattle.std.specs.Prelude.{ℕ, List, [], ◌∷◌, fold}
use Rattle.client_registry.specs.Command.{Add, Delete}
use Rattle.client_registry.specs.Document.{Document}
use Rattle.client_registry.specs.Histories.{empty, begun_by, longer, renewed}
use Rattle.client_registry.specs.Run.{History}
use Rattle.client_registry.specs.Setup.{Setup}

pub data Change : Type 0 where
  SetsUp : Setup → Change
  Adds : Document → Change
  Deletes : (id : ℕ) → Change
  -- the live documents are set up again under this key
  Renews : (key : List ℕ) → Change

-- a history with one change more; before a setup there is none
abbrev pub with_change : History → Change → History
with_change h (SetsUp s) = begun_by s
with_change h (Adds d) = longer (Add d ∷ []) h
with_change h (Deletes id) = longer (Delete id ∷ []) h
with_change h (Renews key) = renewed key h

abbrev pub history_of : List Change → History
history_of changes = fold with_change empty changes
