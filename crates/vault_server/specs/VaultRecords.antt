-- The records that a vault's journal may have.
use Rattle.std.specs.Prelude.{◌≡◌, ◌≢◌, ℕ, ◌+◌, ◌<◌, List, [], length, take, get_or, Option, Some, None}
use Rattle.vault_server.specs.VaultFrames.{VaultFrameText, vault_body}
use Rattle.sse_journal.specs.Files.{Gives}
use Rattle.sse_journal.specs.Reads.{place_of}
use Rattle.vault_server.specs.VaultState.{VaultState, empty_vault, vault_taken, IsVaultTaken, AreVaultTaken, vault_after, vault_records}

-- the k-th record, counted from 0, is the first that a vault doesn't take: those before it are the bodies of frames that a
-- vault takes from nothing on, and it is the body of no frame that the vault takes after them
pub record IsBadRecord (payloads : List (List ℕ)) (k : ℕ) : Type 0 where
  pub frames : List VaultFrameText
  pub are_taken : AreVaultTaken empty_vault frames
  pub before : take k payloads ≡ vault_records frames
  pub inside : k < length payloads
  pub bad : (frame : VaultFrameText) → IsVaultTaken (vault_after empty_vault frames) frame → get_or payloads k [] ≢ vault_body frame

-- so it is with the records that this file gives
pub record HasBadRecord (bytes : List ℕ) (k : ℕ) : Type 0 where
  pub payloads : List (List ℕ)
  pub gives : Gives payloads bytes
  pub bad : IsBadRecord payloads k

-- all of these records are the bodies of frames that a vault takes from nothing on, and this is the state after them
pub record IsReplayed (payloads : List (List ℕ)) (state : VaultState) : Type 0 where
  pub frames : List VaultFrameText
  pub are_taken : AreVaultTaken empty_vault frames
  pub payloads_are : payloads ≡ vault_records frames
  pub state_is : state ≡ vault_after empty_vault frames

-- one record is the body of a frame that a vault takes in this state, and that is the state after it
pub record TakesRecord (before : VaultState) (body : List ℕ) (after : VaultState) : Type 0 where
  pub frame : VaultFrameText
  pub is_taken : IsVaultTaken before frame
  pub body_is : body ≡ vault_body frame
  pub state_is : after ≡ vault_taken before frame

-- these bytes are the body of a frame that a vault in this state takes
abbrev pub CanTake : VaultState → (body : List ℕ) → Type 0
CanTake s body = (frame : VaultFrameText) × IsVaultTaken s frame × (body ≡ vault_body frame)

-- the record of this number and the place of the next one; none where all were taken
abbrev pub TakesNext : (payloads : List (List ℕ)) (number : ℕ) → Option ℕ → (before after : VaultState) → Type 0
TakesNext payloads number None before after = (number ≡ length payloads) × (after ≡ before)
TakesNext payloads number (Some next) before after =
    (number < length payloads) × TakesRecord before (get_or payloads number []) after × (next ≡ place_of payloads (number + 1))
