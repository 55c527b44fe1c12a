-- Each slot, each pad and each tag is named once, and what puts draw is drawn at these names.
use Rattle.std.proofs.Common.{◌≡◌, ℕ, zero, suc, ◌+◌, ◌<◌, Bool, true, false, ◌&&◌, ◌==◌, List, [], ◌∷◌, length, ap, refl, arith}
use Rattle.std.specs.List.{IsDistinct, AllByRecursion}
use Rattle.vault_server.specs.VaultLeaks.{VaultKind, Slot, Pad, Tag, VaultName, vault_names}
use Rattle.keyed_fn.specs.KeyedFn.{KeyedFn}
use Rattle.keyed_fn.specs.VaultFormulas.{VaultSecrets}
use Rattle.vault_shelf.specs.Shelves.{Deposit}
use Rattle.vault_shelf.specs.VaultNames.{drawn_in, same_vault_kind, same_vault_name}
use Rattle.vault_shelf.specs.VaultSessions.{draw_by, draws_from}
use Rattle.vault_shelf.proofs.Rows.{other_number}

abbrev name : ℕ → VaultKind → VaultName
name v kind = record { number = v; kind = kind }

later_put : (m n : ℕ) (a b : VaultKind) → m < n → same_vault_name (name m a) (name n b) ≡ false
later_put m n a b less = ap (λ same. same && same_vault_kind a b) (other_number m n (λ e. absurd (omega (arith, less, e))))

other_kind : (n : ℕ) (a b : VaultKind) → same_vault_kind a b ≡ false → same_vault_name (name n a) (name n b) ≡ false
other_kind n a b differ = by (n == n)
  where
    by : (b2 : Bool) → (b2 && same_vault_kind a b) ≡ false
    by true = differ
    by false = refl

none_later : (m n : ℕ) (a : VaultKind) (puts : ℕ) → m < n → AllByRecursion (λ y. same_vault_name (name m a) y ≡ false) (vault_names n puts)
none_later m n a zero less = tt
none_later m n a (suc puts) less = (
  later_put m n a Slot less,
  (later_put m n a Pad less, (later_put m n a Tag less, none_later m (n + 1) a puts (omega (arith, less)))),
)

pub names_once : (v puts : ℕ) → IsDistinct same_vault_name (vault_names v puts)
unfolding IsDistinct
names_once v zero = tt
names_once v (suc puts) = (
  (other_kind v Slot Pad refl, (other_kind v Slot Tag refl, none_later v (v + 1) Slot puts (omega arith))),
  (
    (other_kind v Pad Tag refl, none_later v (v + 1) Pad puts (omega arith)),
    (none_later v (v + 1) Tag puts (omega arith), names_once (v + 1) puts),
  ),
)

-- what puts draw is drawn at these names
module _ (f : KeyedFn) (keys : VaultSecrets) where
  pub draws_from-named : (v : ℕ) (puts : List Deposit) → draws_from f keys v puts ≡ drawn_in f keys (vault_names v (length puts)) puts
  draws_from-named v [] = refl
  draws_from-named v (put ∷ puts) = ap (λ rest. draw_by f keys v put ∷ rest) (draws_from-named (v + 1) puts)
