-- The updates that a vault has taken, and what a crash leaves of them.
use Rattle.std.specs.Prelude.{◌≡◌, ◌⊎◌, ℕ, List, [], ◌∷◌, ◌++◌, Option, None}
use Rattle.sse_journal.specs.Files.{Gives}
use Rattle.sse_journal.specs.JournalView.{IsJournalOf, broken_by}
use Rattle.vault_server.specs.VaultFrames.{VaultFrameText}
use Rattle.vault_server.specs.VaultServerView.{VaultServerView}
use Rattle.vault_server.specs.VaultState.{AreVaultTaken, IsVaultTaken, empty_vault, vault_after, vault_records}

-- a start from this file gives these updates and at most one more, which a vault takes after them
abbrev pub GivesAtMostOneMore : List VaultFrameText → (bytes : List ℕ) → Type 0
GivesAtMostOneMore frames bytes =
    Gives (vault_records frames) bytes
    ⊎ ((refused : VaultFrameText) × IsVaultTaken (vault_after empty_vault frames) refused × Gives (vault_records (frames ++ refused ∷ [])) bytes)

-- a vault has taken these updates; unless its journal is broken they are all of it, and broken or not, the file that a crash
-- leaves gives them, with at most the one more that a fault of the disk kept from being taken
pub record IsLasting (frames : List VaultFrameText) (server : VaultServerView) (content : Option (List ℕ)) (images : List ℕ → Type 0) : Type 0 where
  pub are_taken : AreVaultTaken empty_vault frames
  pub state_is : server.state ≡ vault_after empty_vault frames
  pub whole : broken_by server.journal ≡ None → IsJournalOf (vault_records frames) server.journal content images
  pub left : (bytes : List ℕ) → images bytes → GivesAtMostOneMore frames bytes

-- over a disk, by what it tells
unfoldable pub Lasts : {D : Type 0} → (content : D → Option (List ℕ)) (images : D → List ℕ → Type 0) → VaultServerView → D → List VaultFrameText → Type 0
Lasts content images server disk frames = IsLasting frames server (content disk) (images disk)

-- if updates lasted before a call, they and these last after it
abbrev pub Last : (lasts lasts2 : List VaultFrameText → Type 0) → List VaultFrameText → Type 0
Last lasts lasts2 more = (frames : List VaultFrameText) → lasts frames → lasts2 (frames ++ more)
