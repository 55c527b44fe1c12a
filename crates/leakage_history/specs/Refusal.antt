-- Why a command isn't taken after those of a history, and the facts of those that were.
use Rattle.std.specs.Prelude.{◌≡◌, ℕ, ◌-◌, ◌^◌, Bool, true, not, ◌&&◌, ◌||◌, nat_lt, [], All, position, Option, None, Some, is_some, option_map, if◌then◌else◌}
use Rattle.std.specs.List.{list_all}
use Rattle.client_registry.specs.Command.{Command, Add, Delete, Search}
use Rattle.client_registry.specs.Document.{Document}
use Rattle.client_registry.specs.Documents.{is_live, IsCollected}
use Rattle.client_registry.specs.Facts.{Facts, has_counters}
use Rattle.client_registry.specs.Live.{counter, is_listed, live}
use Rattle.client_registry.specs.Over.{over}
use Rattle.client_registry.specs.Run.{Run}
use Rattle.client_registry.specs.Sized.{IsSizedCommand, is_accepted}
use Rattle.leakage_history.specs.declared.fault.HistoryFault.{HistoryFault}
use Rattle.leakage_history.specs.declared.fault.HistoryFault.TheVariants.{AlreadyLive, UnknownDocument, CounterFull}

-- the least position, from 0, of a word of the document whose pair would be new and that has no counter left
abbrev pub full_position : Run → Document → Option ℕ
full_position run d = position (λ word. not (is_listed run.setup run.later word d.id || nat_lt (counter run.setup run.later word) (2 ^ 32 - 1))) d.words

-- why a command isn't taken: the first of these causes that stands
abbrev pub push_refusal : Run → Command → Option HistoryFault
push_refusal run (Add d) =
    if is_live (live run.setup.documents run.later) d.id then Some (AlreadyLive d.id)
    else option_map (λ p. CounterFull p) (full_position run d)
push_refusal run (Delete id) = if is_live (live run.setup.documents run.later) id then None else Some (UnknownDocument id)
push_refusal run (Search word) = None

-- whether a command is accepted, by the facts of the history before it
abbrev pub is_accepted_by : Facts → Command → Bool
is_accepted_by f (Add d) = not (is_some (f.live d.id)) && has_counters f d
is_accepted_by f (Delete id) = is_some (f.live id)
is_accepted_by f (Search word) = true

-- the documents of the setup keep their limits, and each command is accepted after those before it: with parameters that are
-- accepted, this is a history
pub record AreAccepted (run : Run) : Type 0 where
  pub collected : IsCollected run.setup.documents
  pub each : All IsSizedCommand run.later
  pub accepted : list_all (λ accepted. accepted) (over (is_accepted run.setup) [] run.later) ≡ true
