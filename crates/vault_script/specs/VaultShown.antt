-- The lines that a vault's run prints for its commands, by what they say. Why a command was refused is an enum of the code, which borrows nothing.
use Rattle.std.specs.Prelude.{ℕ, List}
use Rattle.vault_script.specs.declared.vault_refusal.VaultRefusal.{VaultRefusal}
use Rattle.vault_script.specs.declared.vault_shown.VaultShown.{VaultShown}
use Rattle.vault_script.specs.declared.vault_shown.VaultShown.TheVariants as shown

-- what one printed line says
pub data VaultShownText : Type 0 where
  Stored : (id : ℕ) → VaultShownText
  Dropped : (id : ℕ) → VaultShownText
  Fetched : (id : ℕ) (body : List ℕ) → VaultShownText
  Forged : (id : ℕ) → VaultShownText
  NoBody : (id : ℕ) → VaultShownText
  Refused : (refusal : VaultRefusal) → VaultShownText
  Resumed : (frames : ℕ) → VaultShownText

-- a line to be printed, seen as what it says
abbrev pub vault_shown_view : VaultShown → VaultShownText
vault_shown_view (shown.Stored id) = Stored id
vault_shown_view (shown.Dropped id) = Dropped id
vault_shown_view (shown.Fetched id body) = Fetched id body.now
vault_shown_view (shown.Forged id) = Forged id
vault_shown_view (shown.NoBody id) = NoBody id
vault_shown_view (shown.Refused refusal) = Refused refusal
vault_shown_view (shown.Resumed frames) = Resumed frames
