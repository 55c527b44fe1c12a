-- A vault as a client's commands left it.
use Rattle.std.specs.Prelude.{◌≡◌, ℕ, ◌<◌, ◌≤◌, length, None, Some}
use Rattle.std.specs.FinMap as finmap
use Rattle.std.specs.List.{slice_get}
use Rattle.keyed_fn.specs.KeyedFn.{KeyedFn}
use Rattle.keyed_fn.specs.VaultFormulas.{VaultSecrets, vault_slot}
use Rattle.vault_server.specs.VaultLeaks.{VaultDraw}
use Rattle.vault_server.specs.VaultState.{Held, VaultState}
use Rattle.vault_shelf.specs.Shelves.{Deposit, Shelf}
use Rattle.vault_shelf.specs.VaultSessions.{draw_by}

-- what a draw leaves in its slot
abbrev pub held_by : VaultDraw → Held
held_by draw = record { tag = draw.tag; sealed = draw.sealed }

module _ (f : KeyedFn) (keys : VaultSecrets) where
  -- this put is one of the identifier, its text isn't too long, and its slot has its tag and its encrypted text
  pub record IsThere (vault : VaultState) (s : Shelf) (id put : ℕ) : Type 0 where
    pub deposit : Deposit
    pub own : deposit.id ≡ id
    pub among : slice_get s.puts put ≡ Some deposit
    pub short : length deposit.body ≤ 65536
    pub held : finmap.get vault.slots (vault_slot f keys.slots put) ≡ Some (held_by (draw_by f keys put deposit))

  -- no text that is there is of this put
  abbrev pub IsGone : Shelf → ℕ → Type 0
  IsGone s put = (id : ℕ) → s.there id ≡ Some put → ⊥

  -- the vault expects the client's next number; each text that is there is in its slot; and every other slot is empty
  pub record LeftBy (vault : VaultState) (s : Shelf) : Type 0 where
    pub next : vault.next ≡ s.sent
    pub there : (id put : ℕ) → s.there id ≡ Some put → IsThere vault s id put
    pub empty : (put : ℕ) → put < 0xffffffff → IsGone s put → finmap.get vault.slots (vault_slot f keys.slots put) ≡ None
    pub few : length s.puts ≤ 0xffffffff
