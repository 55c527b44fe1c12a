-- The records that a history leaves in a client's journal.
use Rattle.std.specs.Prelude.{ℕ, List, [], ◌∷◌, ◌++◌, None, Some, map, filter}
use Rattle.client_registry.specs.Command.{Command, is_update}
use Rattle.client_registry.specs.Run.{History, Epochs, From, Renewed}
use Rattle.client_records.specs.Records.{records_of, renewal_record, update_record}

-- the records of these commands, in their order: those of the updates among them, since a search leaves none
abbrev pub recorded : List Command → List (List ℕ)
recorded commands = map update_record (filter is_update commands)

-- the records of epochs whose keys have these marks, the first of them this key: that of the first setup and those of its commands, then
-- for each renewal its own and those of the commands behind it
abbrev pub records_of_epochs : (mark : List ℕ → List ℕ) (key : List ℕ) → Epochs → List (List ℕ)
records_of_epochs mark key (From o run) = records_of (mark key) run
records_of_epochs mark key (Renewed before own run) = records_of_epochs mark key before ++ renewal_record (mark own) ∷ recorded run.later

-- the same of a history; before a setup there is none
abbrev pub records_of_history : (mark : List ℕ → List ℕ) (key : List ℕ) → History → List (List ℕ)
records_of_history mark key None = []
records_of_history mark key (Some es) = records_of_epochs mark key es

-- epochs as their records tell them: with the marks in place of the keys, and without their searches, of which no record tells
abbrev pub as_recorded : (mark : List ℕ → List ℕ) → Epochs → Epochs
as_recorded mark (From o run) = From o (record { setup = run.setup; later = filter is_update run.later })
as_recorded mark (Renewed before own run) = Renewed (as_recorded mark before) (mark own) (record { setup = run.setup; later = filter is_update run.later })

-- the same of a history
abbrev pub without_searches : (mark : List ℕ → List ℕ) → History → History
without_searches mark None = None
without_searches mark (Some es) = Some (as_recorded mark es)
