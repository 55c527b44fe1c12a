-- When two names of drawn values are one, and the draws of puts by the values at their names.
use Rattle.std.specs.Prelude.{Bool, true, false, ◌&&◌, ◌==◌, List, [], ◌∷◌, length}
use Rattle.keyed_fn.specs.KeyedFn.{KeyedFn}
use Rattle.keyed_fn.specs.VaultFormulas.{VaultSecrets, vault_pad, vault_slot, vault_tag}
use Rattle.keyed_fn.specs.Xored.{xored}
use Rattle.vault_server.specs.VaultLeaks.{VaultDraw, VaultKind, Slot, Pad, Tag, VaultName}
use Rattle.vault_shelf.specs.Shelves.{Deposit}

abbrev pub same_vault_kind : VaultKind → VaultKind → Bool
same_vault_kind Slot Slot = true
same_vault_kind Pad Pad = true
same_vault_kind Tag Tag = true
same_vault_kind _ _ = false

abbrev pub same_vault_name : VaultName → VaultName → Bool
same_vault_name x y = x.number == y.number && same_vault_kind x.kind y.kind

module _ (f : KeyedFn) (keys : VaultSecrets) where
  -- what a put draws at three names: its slot, the keystream of its text, and its tag
  abbrev pub drawn_at_names : (slot pad tag : VaultName) → Deposit → VaultDraw
  drawn_at_names slot pad tag put =
      let sealed = xored put.body (vault_pad f keys.pads pad.number (length put.body)) in
      record { slot = vault_slot f keys.slots slot.number; tag = vault_tag f keys.tags tag.number put.id sealed; sealed = sealed }

  -- what puts draw, each at the next three names
  abbrev pub drawn_in : List VaultName → List Deposit → List VaultDraw
  drawn_in (slot ∷ pad ∷ tag ∷ names) (put ∷ puts) = drawn_at_names slot pad tag put ∷ drawn_in names puts
  drawn_in names puts = []
