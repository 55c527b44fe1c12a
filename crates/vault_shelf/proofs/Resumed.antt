-- What passes in a session that is resumed is the rest of what the simulator makes of the whole history.
use Rattle.std.proofs.Common.{◌≡◌, ℕ, List, [], ◌∷◌, ◌++◌, length, refl, sym, ap, ◌∙◌}
use Rattle.std.specs.Prelude.{Option, None, Some}
use Rattle.keyed_fn.specs.KeyedFn.{KeyedFn}
use Rattle.keyed_fn.specs.VaultFormulas.{VaultSecrets, vault_slot}
use Rattle.vault_server.specs.VaultFrames.{AskFrame, FetchFrame, Next}
use Rattle.vault_server.specs.VaultLeaks.{Sent, Received, simulated_from, vault_simulate}
use Rattle.vault_server.specs.VaultState.{VaultState}
use Rattle.vault_shelf.specs.ShelfFaults.{AreAccepted}
use Rattle.vault_shelf.specs.Shelves.{VaultCommand, Put, Drop, Get, Shelf, empty_shelf, shelf_after, shelf_of, without_gets}
use Rattle.vault_shelf.specs.Standing.{LeftBy}
use Rattle.vault_shelf.specs.VaultLeaking.{vault_leaks}
use Rattle.vault_shelf.specs.VaultSessions.{SlotsDiffer, draws_from, frames_of, sent_by, session_from, vault_draws, vault_stepped}
use Rattle.vault_shelf.proofs.Fronts.{shelf_of-append}
use Rattle.vault_shelf.proofs.SessionLaw.{session_is_simulated_from}
use Rattle.vault_shelf.proofs.Simulated.{simulated-append}

module _ (f : KeyedFn) (keys : VaultSecrets) where
  -- the history has earlier commands, gets among them, and later ones; the vault is as the earlier ones left it
  pub resumed_is_rest : SlotsDiffer f keys → (earlier later : List VaultCommand) (vault : VaultState) → LeftBy f keys vault (shelf_of empty_shelf earlier) → AreAccepted (shelf_of empty_shelf earlier) later
      → vault_simulate (vault_leaks empty_shelf (earlier ++ later)) (vault_draws f keys (earlier ++ later))
      ≡ vault_simulate (vault_leaks empty_shelf earlier) (vault_draws f keys (earlier ++ later)) ++ session_from f keys vault (shelf_of empty_shelf earlier) later
  resumed_is_rest differ earlier later vault left accepted =
      let s = shelf_of empty_shelf earlier in
      let draws = vault_draws f keys (earlier ++ later) in
      let same : draws_from f keys 0 (shelf_of s later).puts ≡ draws = ap (λ (t : Shelf). draws_from f keys 0 t.puts) (sym (shelf_of-append empty_shelf earlier later)) in
      let rest : session_from f keys vault s later ≡ simulated_from s.sent (length s.puts) (vault_leaks s later) draws =
      session_is_simulated_from f keys differ later vault s left accepted ∙ ap (simulated_from s.sent (length s.puts) (vault_leaks s later)) same in
      ap (λ passed. Sent AskFrame ∷ Received (Next 0) ∷ passed)
      (simulated-append draws empty_shelf earlier later ∙ ap (λ passed. simulated_from 0 0 (vault_leaks empty_shelf earlier) draws ++ passed) (sym rest))

  -- the vault is the same after the frames of all earlier commands and after those of the puts and drops alone
  pub stepped-without_gets : (vault : VaultState) (s : Shelf) (cs : List VaultCommand) → vault_stepped vault (frames_of f keys s (without_gets cs)) ≡ vault_stepped vault (frames_of f keys s cs)
  stepped-without_gets vault s [] = refl
  stepped-without_gets vault s (Put id body ∷ cs) = stepped-without_gets (vault_stepped vault (sent_by f keys s (Put id body))) (shelf_after s (Put id body)) cs
  stepped-without_gets vault s (Drop id ∷ cs) = stepped-without_gets (vault_stepped vault (sent_by f keys s (Drop id))) (shelf_after s (Drop id)) cs
  stepped-without_gets vault s (Get id ∷ cs) = by (stepped-without_gets vault s cs) (s.there id)
    where
      by : vault_stepped vault (frames_of f keys s (without_gets cs)) ≡ vault_stepped vault (frames_of f keys s cs) → (m : Option ℕ)
          → vault_stepped vault (frames_of f keys s (without_gets cs)) ≡ vault_stepped vault ((elim m [ None ↦ [] | Some put ↦ FetchFrame (vault_slot f keys.slots put) ∷ [] ]) ++ frames_of f keys s cs)
      by e None = e
      by e (Some put) = e
