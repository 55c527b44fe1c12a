-- A contract's view of a vault with its journal, and the updates that it has taken.
use Rattle.std.specs.Prelude.{◌≡◌, ℕ, ◌+◌, ◌≤◌, List, length, Option, None, IfSome, refl}
use Rattle.std.specs.Coded.{Coded, code_by, coded×}
use Rattle.sse_journal.specs.Files.{Gives}
use Rattle.sse_journal.specs.JournalView.{end_of, broken_by, IsJournalOf}
use Rattle.sse_journal.specs.declared.journal.Journal.{Journal}
use Rattle.sse_journal.specs.contracts.journal.Journal as journals
use Rattle.vault_server.specs.VaultFrames.{VaultFrameText}
use Rattle.vault_server.specs.VaultState.{VaultState, state_code, empty_vault, AreVaultTaken, vault_after, vault_records}

pub record VaultServerView : Type 0 where
  -- what it holds
  pub state : VaultState
  pub journal : Journal

abbrev pub vault_server_code : Coded VaultServerView
vault_server_code = code_by (VaultState × Journal) (coded× state_code journals.the_row.coded) (λ s. (s.state, s.journal)) (λ p. record { state = p.0; journal = p.1 }) (λ _. refl)

-- it has taken these updates from nothing on, and they are all of its journal, over a disk that holds that and nothing else
pub record IsVaultOf (frames : List VaultFrameText) (server : VaultServerView) (content : Option (List ℕ)) (images : List ℕ → Type 0) : Type 0 where
  pub are_taken : AreVaultTaken empty_vault frames
  pub state_is : server.state ≡ vault_after empty_vault frames
  pub journal_is : IsJournalOf (vault_records frames) server.journal content images

-- where its journal isn't broken and the disk tells its content, the commit byte after the records is in the file
abbrev pub IsWithin : Journal → Option (List ℕ) → Type 0
IsWithin journal content = broken_by journal ≡ None → IfSome content (λ bytes. end_of journal + 1 ≤ length bytes)

-- it has taken the updates whose bodies are the records that this file gives
pub record IsVaultFrom (bytes : List ℕ) (store : VaultServerView) (content : Option (List ℕ)) (images : List ℕ → Type 0) : Type 0 where
  pub frames : List VaultFrameText
  pub gives : Gives (vault_records frames) bytes
  pub store_is : IsVaultOf frames store content images
