-- How a session resumes: the server is asked for the number of the next update, and if it is missing the client's last one, that frame is
-- sent again.
use Rattle.std.specs.Prelude.{◌≡◌, ◌≢◌, ◌⊎◌, ℕ, ◌+◌, ◌-◌, ◌≤◌, List, [], ◌∷◌, ◌++◌, length, Option, IfSome, Result, Ok, Err}
use Rattle.std.specs.List.{AllByRecursion, flat_map}
use Rattle.keyed_fn.specs.KeyedFn.{KeyedFn}
use Rattle.keyed_fn.specs.VaultFormulas.{VaultSecrets}
use Rattle.script_run_texts.specs.declared.command_stop.CommandStop.TheVariants as commands
use Rattle.script_run_texts.specs.declared.peer_stop.PeerStop.TheVariants as peers
use Rattle.script_run_texts.specs.declared.stop_cause.StopCause.TheVariants as runs
use Rattle.vault_link.specs.Exchanges.{Exchange}
use Rattle.vault_link.specs.Served.{VaultRemote}
use Rattle.vault_server.specs.VaultFrames.{InVault, vault_bytes}
use Rattle.vault_server.specs.VaultState.{VaultState}
use Rattle.vault_shelf.specs.Shelves.{VaultCommand, Shelf, empty_shelf, shelf_of}
use Rattle.vault_shelf.specs.Standing.{LeftBy}
use Rattle.vault_shelf.specs.VaultSessions.{sent_by}
use Rattle.vault_script.specs.declared.vault_stop.VaultStop.{VaultStop}
use Rattle.vault_script.specs.declared.vault_stop.VaultStop.TheVariants as stops
use Rattle.vault_shelf.specs.Apart.{KeepsApart, KeepsNone}
use Rattle.vault_shelf.specs.ShelfView.{ShelfView}
use Rattle.doc_vault.specs.Acknowledged.{StopsSending}
use Rattle.doc_vault.specs.CommandRuns.{IsExchanged}
use Rattle.doc_vault.specs.CommandViews.{shown_of}
use Rattle.doc_vault.specs.Greetings.{HasSaid, StopsAsking}
use Rattle.doc_vault.specs.Outcomes.{link_stop, memory_stop, own_memory_stop}
use Rattle.doc_vault.specs.Sights.{HasPassed, LinkSight}

-- a shelf has what these commands leave, but for the last of them, which is kept apart as its record
abbrev pub KeepsLast : (view : ShelfView) (last : List ℕ) → List VaultCommand → Type 0
KeepsLast view last cs = KeepsNone view last cs ⊎ KeepsApart view last cs

-- what all commands leave
abbrev pub left_by : List VaultCommand → Shelf
left_by cs = shelf_of empty_shelf cs

-- a number is that of the next update of a server that is told
abbrev pub IsNextOf : ℕ → Option VaultRemote → Type 0
IsNextOf n remote = IfSome remote (λ before. n ≡ before.state.next)

-- the server expects update `got`, which is neither the client's last one, of number `low`, nor the next, of number `high`
abbrev pub elsewhere_than : (low high got : ℕ) → VaultStop
elsewhere_than low high got = stops.Run (runs.Command (commands.Exchange (peers.Elsewhere low high got)))

-- the stop of a client with so many updates; one without any has no last one
abbrev pub elsewhere_by : (updates got : ℕ) → VaultStop
elsewhere_by updates got = elsewhere_than (updates - 1) updates got

-- a client without updates: the server expects the first, or the run stops for its number
abbrev pub IsFirstOf : (next : ℕ) → Result ℕ VaultStop → Type 0
IsFirstOf next (Ok frames) = (next ≡ 0) × (frames ≡ 0)
IsFirstOf next (Err stop) = (next ≢ 0) × (stop ≡ elsewhere_by 0 next)

-- the run stops at a command's frame that is sent again: there is no memory to write it, or the frame, which is one of the grammar, isn't
-- acknowledged by its number
pub data StopsSendingAgain (f : KeyedFn) (keys : VaultSecrets) (s : Shelf) (c : VaultCommand) (old new : LinkSight) (stop : VaultStop) : Type 0 where
  Unwritten : stop ≡ own_memory_stop → new ≡ old → StopsSendingAgain f keys s c old new stop
  Unacknowledged : AllByRecursion InVault (sent_by f keys s c) → StopsSending (flat_map vault_bytes (sent_by f keys s c)) s.sent old new stop → StopsSendingAgain f keys s c old new stop

-- one of the two: the frame was sent again, and the reply acknowledges its number
abbrev pub SendsAgain : {T : Type 0} → (f : KeyedFn) (keys : VaultSecrets) (s : Shelf) (c : VaultCommand) (old new : LinkSight) → Result T VaultStop → Type 0
SendsAgain f keys s c old new (Ok done) = (again : List Exchange) × IsExchanged f keys s c again (shown_of c []) × HasPassed again old new
SendsAgain f keys s c old new (Err stop) = StopsSendingAgain f keys s c old new stop

module _ (f : KeyedFn) (keys : VaultSecrets) (cs : List VaultCommand) where
  -- the frame of the last command was sent again, and the reply acknowledges its number
  pub record IsSentAgain (again : List Exchange) : Type 0 where
    pub before : List VaultCommand
    pub command : VaultCommand
    pub are : cs ≡ before ++ command ∷ []
    pub exchanged : IsExchanged f keys (left_by before) command again (shown_of command [])

  -- a server that expects update n has all updates, and nothing is sent; or all but the last, which is sent again
  pub data Supplies (n : ℕ) (again : List Exchange) (frames : ℕ) : Type 0 where
    HasAll : n ≡ (left_by cs).sent → again ≡ [] → frames ≡ 0 → Supplies n again frames
    HasAllButLast : n + 1 ≡ (left_by cs).sent → IsSentAgain again → frames ≡ 1 → Supplies n again frames

  -- or the run stops: the server expects neither of the two; or at the frame that is sent again
  pub data StopsSupply (n : ℕ) (old new : LinkSight) (stop : VaultStop) : Type 0 where
    Elsewhere : n ≢ (left_by cs).sent → n + 1 ≢ (left_by cs).sent → stop ≡ elsewhere_by (left_by cs).sent n → new ≡ old → StopsSupply n old new stop
    Unsupplied : (before : List VaultCommand) (command : VaultCommand) → n + 1 ≡ (left_by cs).sent → cs ≡ before ++ command ∷ []
        → StopsSendingAgain f keys (left_by before) command old new stop → StopsSupply n old new stop

  -- one of the two
  abbrev pub SuppliesAll : (n : ℕ) (old new : LinkSight) → Result ℕ VaultStop → Type 0
  SuppliesAll n old new (Ok frames) = (again : List Exchange) × Supplies n again frames × HasPassed again old new
  SuppliesAll n old new (Err stop) = StopsSupply n old new stop

  -- the server said what it expects, and so many frames were sent again
  pub record HasCaughtUp (again : List Exchange) (frames : ℕ) (old new : LinkSight) : Type 0 where
    pub next : ℕ
    pub asked : LinkSight
    pub question : HasSaid next old asked
    pub own : IsNextOf next old.remote
    pub supplies : Supplies next again frames
    pub passed : HasPassed again asked new

  -- or the run stops: at the question, or for the number that the server said
  pub data StopsCatchingUp (old new : LinkSight) (stop : VaultStop) : Type 0 where
    Unasked : StopsAsking old new stop → IfSome old.remote (λ before. (stop ≡ link_stop) ⊎ (stop ≡ memory_stop)) → StopsCatchingUp old new stop
    AfterNumber : (n : ℕ) (asked : LinkSight) → HasSaid n old asked → IsNextOf n old.remote → StopsSupply n asked new stop → StopsCatchingUp old new stop

  -- one of the two
  abbrev pub CatchesUp : (old new : LinkSight) → Result ℕ VaultStop → Type 0
  CatchesUp old new (Ok frames) = (again : List Exchange) × HasCaughtUp again frames old new
  CatchesUp old new (Err stop) = StopsCatchingUp old new stop

  -- the vault is as all of these commands left it, or all but the last, which is then missing there
  pub record MissesAtMostOne (vault : VaultState) : Type 0 where
    pub earlier : List VaultCommand
    pub missing : List VaultCommand
    pub parts : cs ≡ earlier ++ missing
    pub few : length missing ≤ 1
    pub left : LeftBy f keys vault (left_by earlier)
