-- What passes over a link that tells the server at its other end.
use Rattle.std.specs.Prelude.{◌≡◌, List, length, Option, IfSome}
use Rattle.keyed_fn.specs.KeyedFn.{KeyedFn}
use Rattle.keyed_fn.specs.VaultFormulas.{VaultSecrets}
use Rattle.vault_server.specs.VaultLeaks.{simulated_from}
use Rattle.vault_server.specs.VaultState.{VaultState}
use Rattle.vault_link.specs.Exchanges.{Exchange, events_of, events_of_passed}
use Rattle.vault_link.specs.Served.{VaultRemote}
use Rattle.vault_shelf.specs.ShelfFaults.{AreAccepted}
use Rattle.vault_shelf.specs.Shelves.{Shelf, VaultCommand, shelf_of}
use Rattle.vault_shelf.specs.Standing.{LeftBy}
use Rattle.vault_shelf.specs.VaultLeaking.{vault_leaks}
use Rattle.vault_shelf.specs.VaultSessions.{SlotsDiffer, draws_from, frames_of, session_from, vault_stepped}

module _ (f : KeyedFn) (keys : VaultSecrets) where
  -- these exchanges pass as the session of these commands does, with a vault that keeps to its step. If it stood where the client's earlier commands
  -- left it, and puts of different numbers have different slots, they are what the simulator makes of the commands' leaks and draws alone
  pub record PassesHonestly (s : Shelf) (before : VaultState) (commands : List VaultCommand) (passed : List Exchange) (remote' : Option VaultRemote) : Type 0 where
    pub accepted : AreAccepted s commands
    pub session : events_of passed ≡ events_of_passed (session_from f keys before s commands)
    pub simulated : SlotsDiffer f keys → LeftBy f keys before s → events_of passed
        ≡ events_of_passed (simulated_from s.sent (length s.puts) (vault_leaks s commands) (draws_from f keys 0 (shelf_of s commands).puts))
    pub state : IfSome remote' (λ after. after.state ≡ vault_stepped before (frames_of f keys s commands))
    pub left : SlotsDiffer f keys → LeftBy f keys before s → IfSome remote' (λ after. LeftBy f keys after.state (shelf_of s commands))
