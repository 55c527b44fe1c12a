-- What stays of a vault and its journal if an update isn't taken, and what a broken journal changes.
use Rattle.std.specs.Prelude.{◌≡◌, ◌≢◌, ℕ, List, Option, None, Result, Err, IfSome, IsSome, OnErr}
use Rattle.sse_outside.specs.declared.device_fault.DeviceFault.{DeviceFault}
use Rattle.sse_journal.specs.JournalView.{IsJournalOf, broken_by}
use Rattle.sse_journal.specs.declared.journal.Journal.{Journal}
use Rattle.vault_server.specs.VaultAnswers.{fault_answer}
use Rattle.vault_server.specs.VaultFrames.{VaultFrameText}
use Rattle.vault_server.specs.VaultServerView.{IsVaultOf, VaultServerView}
use Rattle.vault_server.specs.declared.vault_answer.VaultAnswer.{VaultAnswer}
use Rattle.vault_server.specs.declared.vault_answer.VaultAnswer.TheVariants.{Took}

-- if no update was acknowledged and the journal isn't broken after the answer, the vault has taken what it had taken before. A broken journal
-- changes nothing. If the answer breaks the journal, it reports why
pub record StaysVault {D : Type 0} (content : D → Option (List ℕ)) (images : D → List ℕ → Type 0) (old new : D) (before after : VaultServerView) (answer : VaultAnswer) : Type 0 where
  pub kept : ((n : ℕ) → answer ≢ Took n) → broken_by after.journal ≡ None → (frames : List VaultFrameText) →
      IsVaultOf frames before (content old) (images old) → IsVaultOf frames after (content new) (images new)
  pub broken : IsSome (broken_by before.journal) → (new ≡ old) × (after ≡ before)
  pub breaks : broken_by before.journal ≡ None → IfSome (broken_by after.journal) (λ why. answer ≡ fault_answer why)

-- the same of the journal, at an update that isn't refused
pub record StaysJournal {T D : Type 0} (content : D → Option (List ℕ)) (images : D → List ℕ → Type 0) (old new : D) (result : Result T DeviceFault) (before after : Journal) : Type 0 where
  pub kept : OnErr result (broken_by after ≡ None → (payloads : List (List ℕ)) → IsJournalOf payloads before (content old) (images old) → IsJournalOf payloads after (content new) (images new))
  pub broken : IsSome (broken_by before) → (new ≡ old) × (after ≡ before)
  pub breaks : broken_by before ≡ None → IfSome (broken_by after) (λ why. result ≡ Err why)
