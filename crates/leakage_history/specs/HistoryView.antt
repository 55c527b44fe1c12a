-- The meaning of the fields of a history.
use Rattle.std.specs.Prelude.{◌≡◌, [], map, Option, None, Some}
use Rattle.client_registry.specs.HashNumbers.{hash_numbers}
use Rattle.client_registry.specs.Registered.{Registered, Represents}
use Rattle.client_registry.specs.Run.{Run}
use Rattle.client_registry.specs.Setup.{setup_with}
use Rattle.leakage_history.specs.Commands.{command_of}
use Rattle.leakage_history.specs.HashedRun.{HashedRun, run_of}
use Rattle.leakage_history.specs.Refusal.{AreAccepted}
use Rattle.leakage_history.specs.declared.history.History.TheInside.{Inside}

-- what contracts see of a history
abbrev pub history_of : Inside → HashedRun
history_of h = record { setup = setup_with h.docs.documents h.b h.big h.pad; later = map command_of h.commands.items; keys = hash_numbers h.keys }

-- a registry tells what is live, listed and counted after the commands, or there is none before the first
abbrev pub TellsAfter : Option Registered → Run → Type 0
TellsAfter None run = run.later ≡ []
TellsAfter (Some registry) run = Represents registry run.setup run.later

-- the commands are accepted, and what is live, listed and counted after them is told
pub record IsRegistered (h : Inside) : Type 0 where
  pub accepted : AreAccepted (run_of (history_of h))
  pub registry : TellsAfter h.registry (run_of (history_of h))
