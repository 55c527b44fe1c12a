-- What a command does under the keys of a vault, and how a run stops in one.
use Rattle.std.specs.Prelude.{◌≡◌, ◌⊎◌, ℕ, ◌≤◌, List, [], ◌∷◌, length, Option, None, Some, IsSome, map, Result, Ok, Err}
use Rattle.std.specs.List.{AllByRecursion, flat_map}
use Rattle.keyed_fn.specs.KeyedFn.{KeyedFn}
use Rattle.keyed_fn.specs.VaultFormulas.{VaultSecrets}
use Rattle.sse_outside.specs.Kept.{Kept, with_records, with_refused}
use Rattle.sse_outside.specs.declared.device_fault.DeviceFault.{DeviceFault}
use Rattle.script_run_texts.specs.declared.command_stop.CommandStop.TheVariants as commands
use Rattle.script_run_texts.specs.declared.stop_cause.StopCause.TheVariants as runs
use Rattle.vault_server.specs.VaultFrames.{InVault, vault_bytes}
use Rattle.vault_link.specs.Exchanges.{Exchange}
use Rattle.vault_shelf.specs.ClientRecords.{command_record}
use Rattle.vault_shelf.specs.Shelves.{Shelf, VaultCommand, Put, Drop, Get, without_gets}
use Rattle.vault_shelf.specs.VaultSessions.{sent_by}
use Rattle.vault_script.specs.VaultShown.{VaultShownText}
use Rattle.vault_script.specs.declared.vault_stop.VaultStop.{VaultStop}
use Rattle.vault_script.specs.declared.vault_stop.VaultStop.TheVariants as stops
use Rattle.doc_vault.specs.CommandViews.{shown_of}
use Rattle.doc_vault.specs.Outcomes.{ComesTo, Shows, Stops, command_outcome, link_stop, memory_stop, own_memory_stop}
use Rattle.doc_vault.specs.Sights.{HasPassed, LinkSight}

-- the records of a command: a get has none
abbrev pub records_of : VaultCommand → List (List ℕ)
records_of c = map command_record (without_gets (c ∷ []))

-- the records weren't taken: there was no memory to hand them over, or they were refused
pub data StopsKeeping (records : List (List ℕ)) (old new : Kept) (stop : VaultStop) : Type 0 where
  NoRoom : stop ≡ own_memory_stop → new ≡ old → StopsKeeping records old new stop
  NotTaken : (fault : DeviceFault) → stop ≡ stops.Run (runs.Command (commands.Keeping fault)) → new ≡ with_refused records old → StopsKeeping records old new stop

-- they were, after those of before; or not
abbrev pub KeepsRecords : {T : Type 0} → (records : List (List ℕ)) → (old new : Kept) → Result T VaultStop → Type 0
KeepsRecords records old new (Ok done) = new ≡ with_records records old
KeepsRecords records old new (Err stop) = StopsKeeping records old new stop

-- a put or a drop, with a text that a record has room for
abbrev pub IsUpdate : VaultCommand → Type 0
IsUpdate (Put id body) = length body ≤ 65536
IsUpdate (Drop id) = Unit {0}
IsUpdate (Get id) = ⊥

-- the same, or a get
abbrev pub IsShortCommand : VaultCommand → Type 0
IsShortCommand (Put id body) = length body ≤ 65536
IsShortCommand (Drop id) = Unit {0}
IsShortCommand (Get id) = Unit {0}

-- the command has a frame: a get has one only if its text is there
abbrev pub HasFrame : Shelf → VaultCommand → Type 0
HasFrame s (Put id body) = Unit {0}
HasFrame s (Drop id) = Unit {0}
HasFrame s (Get id) = IsSome (s.there id)

module _ (f : KeyedFn) (keys : VaultSecrets) (s : Shelf) (c : VaultCommand) where
  -- the command's frame, with this reply or with none
  abbrev pub exchange_of : Option (List ℕ) → Exchange
  exchange_of reply = record { frame = flat_map vault_bytes (sent_by f keys s c); reply = reply }

  -- the frame, which is one of the grammar, was sent, and its reply shows this line
  pub record IsExchanged (passed : List Exchange) (shown : VaultShownText) : Type 0 where
    pub reply : List ℕ
    pub are : passed ≡ exchange_of (Some reply) ∷ []
    pub grammar : AllByRecursion InVault (sent_by f keys s c)
    pub comes : ComesTo (command_outcome f keys s c) reply (Shows shown)

  -- the same, seen over the link; a get shows this text
  pub record ShowsText (old new : LinkSight) (text : List ℕ) : Type 0 where
    pub passed : List Exchange
    pub exchanged : IsExchanged passed (shown_of c text)
    pub seen : HasPassed passed old new

  -- the run stops in the exchange: nothing passed; the frame had no reply; there is no memory to read the reply; or the reply to
  -- the frame, which is one of the grammar, stops it
  pub data StopsExchange (old new : LinkSight) (stop : VaultStop) : Type 0 where
    Unsent : (stop ≡ link_stop) ⊎ (stop ≡ memory_stop) → new ≡ old → StopsExchange old new stop
    Unanswered : stop ≡ link_stop → HasPassed (exchange_of None ∷ []) old new → StopsExchange old new stop
    Unread : (reply : List ℕ) → stop ≡ own_memory_stop → HasPassed (exchange_of (Some reply) ∷ []) old new → StopsExchange old new stop
    Unfit : (reply : List ℕ) → HasPassed (exchange_of (Some reply) ∷ []) old new → AllByRecursion InVault (sent_by f keys s c) → ComesTo (command_outcome f keys s c) reply (Stops stop) → StopsExchange old new stop

  -- one of the two
  abbrev pub Exchanges : {T : Type 0} → (old new : LinkSight) (text : List ℕ) → Result T VaultStop → Type 0
  Exchanges old new text (Ok done) = ShowsText old new text
  Exchanges old new text (Err stop) = StopsExchange old new stop

  -- the run stops in the command: before its record is handed over, as its record isn't taken, or in the exchange after it
  pub data StopsCommand (old new : LinkSight) (kept kept' : Kept) (stop : VaultStop) : Type 0 where
    Unprepared : stop ≡ own_memory_stop → new ≡ old → kept' ≡ kept → StopsCommand old new kept kept' stop
    Unkept : StopsKeeping (records_of c) kept kept' stop → new ≡ old → StopsCommand old new kept kept' stop
    Cut : StopsExchange old new stop → kept' ≡ with_records (records_of c) kept → StopsCommand old new kept kept' stop

  -- the record was taken, then the frame was sent, and its reply shows this text, if the command is a get; or the run stops
  abbrev pub CarriesOut : {T : Type 0} → (old new : LinkSight) (kept kept' : Kept) (text : List ℕ) → Result T VaultStop → Type 0
  CarriesOut old new kept kept' text (Ok done) = ShowsText old new text × (kept' ≡ with_records (records_of c) kept)
  CarriesOut old new kept kept' text (Err stop) = StopsCommand old new kept kept' stop
