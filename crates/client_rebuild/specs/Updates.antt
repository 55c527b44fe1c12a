-- The command of a history that a record's update is.
use Rattle.std.specs.Prelude.{ℕ, ◌<◌, Bool, true, not, List, [], ◌∷◌, ◌++◌, is_some}
use Rattle.client_registry.specs.Command.{Command, Add, Delete, Search}
use Rattle.client_registry.specs.Facts.{Facts}
use Rattle.client_registry.specs.IdNumber.{id_number}
use Rattle.client_registry.specs.Run.{Run}
use Rattle.client_rebuild.specs.declared.update.Update.{Update}
use Rattle.client_rebuild.specs.declared.update.Update.TheVariants as updates

-- the same run with one update more
abbrev pub with_update : Run → Command → Run
with_update run c = record { setup = run.setup; later = run.later ++ c ∷ [] }

-- the command that an update is
abbrev pub command_of : Update → Command
command_of (updates.Add doc) = Add doc
command_of (updates.Delete id) = Delete (id_number id)

-- whether a command fits what is live: the identifier of an addition isn't, that of a deletion is
abbrev pub fits : Facts → Command → Bool
fits facts (Add d) = not (is_some (facts.live d.id))
fits facts (Delete id) = is_some (facts.live id)
fits facts (Search word) = true

-- the counter of each word is below this number
abbrev pub AreCounted : Facts → ℕ → Type 0
AreCounted facts n = (word : List ℕ) → facts.counter word < n
