-- What an answer of the vault promises: of the state, of the journal, and of the disk's count of faults.
use Rattle.std.specs.Prelude.{◌≡◌, ◌≢◌, ◌⊎◌, ℕ, ◌≤◌, List, [], ◌∷◌, ◌++◌, Option, None, Some, Result, Err, IfErr, IfOk, IfSome, IsErrOf, OnErr, OnOk}
use Rattle.sse_outside.specs.Causes.{Rose}
use Rattle.sse_outside.specs.declared.device_fault.DeviceFault.{DeviceFault}
use Rattle.sse_outside.specs.declared.device_fault.DeviceFault.TheVariants.{Failed}
use Rattle.sse_frames.specs.declared.fault.FrameFault.{FrameFault}
use Rattle.sse_journal.specs.AnyMoment.{LeavesOnly}
use Rattle.sse_journal.specs.Files.{GivesWithOrWithout}
use Rattle.sse_journal.specs.JournalView.{IsJournalOf, broken_by}
use Rattle.sse_journal.specs.declared.journal.Journal.{Journal}
use Rattle.vault_server.specs.VaultAnswers.{answer_reply}
use Rattle.vault_server.specs.VaultFrames.{VaultFrameText, VaultReplyText}
use Rattle.vault_server.specs.VaultServerView.{IsVaultOf, IsWithin, VaultServerView}
use Rattle.vault_server.specs.VaultState.{VaultState, vault_records, vault_taken}
use Rattle.vault_server.specs.declared.vault_answer.VaultAnswer.{VaultAnswer}
use Rattle.vault_server.specs.declared.vault_answer.VaultAnswer.TheVariants.{Took, NoMemory, StoreFault}

-- a journal that is broken stays so, for the same cause
abbrev pub StaysBroken : (before after : Journal) → Type 0
StaysBroken before after = (why : DeviceFault) → broken_by before ≡ Some why → broken_by after ≡ Some why

-- An answer to a frame, or to bytes that are no frame.

-- state and reply are those of this step. Out of memory or a fault of the disk is reported only for an update that the vault would take, and then
-- the state is unchanged
pub record Answers (before after : VaultState) (answer : VaultAnswer) (step : VaultState × VaultReplyText) (can : Type 0) : Type 0 where
  pub state : answer ≢ NoMemory → answer ≢ StoreFault → after ≡ step.0
  pub reply : answer ≢ NoMemory → answer ≢ StoreFault → answer_reply after answer ≡ step.1
  pub not_taken : (answer ≡ NoMemory) ⊎ (answer ≡ StoreFault) → (after ≡ before) × can

-- an acknowledged update follows the updates that the vault had taken. A crash at any moment of the call leaves those, with or without the update
-- of this body. If there is no update that the vault takes, disk and vault are unchanged
pub record JournalsUpdate {D : Type 0} (content : D → Option (List ℕ)) (images : D → List ℕ → Type 0) (moment : D → ℕ) (left_since : D → ℕ → List ℕ → Type 0) (old new : D)
    (before after : VaultServerView) (answer : VaultAnswer) (read : Result VaultFrameText FrameFault) (body : List ℕ) (can : Type 0) : Type 0 where
  pub added : (n : ℕ) → answer ≡ Took n → (frames : List VaultFrameText) → IsVaultOf frames before (content old) (images old) →
      IfOk read (λ frame. IsVaultOf (frames ++ frame ∷ []) after (content new) (images new))
  pub any_moment : (frames : List VaultFrameText) → broken_by before.journal ≡ None → IsVaultOf frames before (content old) (images old) →
      LeavesOnly moment left_since old new (GivesWithOrWithout (vault_records frames) body)
  pub untouched : (can → ⊥) → (new ≡ old) × (after ≡ before)

-- the journal after the answer: the file has the commit byte after its records. It isn't broken if an update was acknowledged, and wasn't before;
-- it is broken if a fault of the disk was reported. One that is broken stays so, for the same cause
pub record LeavesJournal (before after : Journal) (content' : Option (List ℕ)) (answer : VaultAnswer) : Type 0 where
  pub within_after : IsWithin after content'
  pub whole : (n : ℕ) → answer ≡ Took n → (broken_by before ≡ None) × (broken_by after ≡ None)
  pub failed_breaks : answer ≡ StoreFault → broken_by after ≡ Some Failed
  pub stays_broken : StaysBroken before after

-- the disk's count of faults never falls. It rises if a fault of the disk is reported and the journal wasn't broken before; it stays at every
-- other answer
pub record CountsAnswer (answer : VaultAnswer) (journal : Journal) (before now : ℕ) : Type 0 where
  pub later : before ≤ now
  pub failed : answer ≡ StoreFault → broken_by journal ≡ None → Rose before now
  pub steady : answer ≢ StoreFault → now ≡ before

-- An update that isn't refused.

-- the state is the one after the update, or is unchanged
pub record TakesOrStays {T : Type 0} (result : Result T DeviceFault) (before after : VaultState) (frame : VaultFrameText) : Type 0 where
  pub taken : OnOk result (after ≡ vault_taken before frame)
  pub state_kept : OnErr result (after ≡ before)

-- if it is taken, it follows the updates that the vault had taken. A crash at any moment of the call leaves those, with or without this one. The
-- journal is as after an answer
pub record JournalsOne {T D : Type 0} (content : D → Option (List ℕ)) (images : D → List ℕ → Type 0) (moment : D → ℕ) (left_since : D → ℕ → List ℕ → Type 0) (old new : D)
    (result : Result T DeviceFault) (before after : VaultServerView) (frame : VaultFrameText) (body : List ℕ) : Type 0 where
  pub added : OnOk result ((frames : List VaultFrameText) → IsVaultOf frames before (content old) (images old) →
      IsVaultOf (frames ++ frame ∷ []) after (content new) (images new))
  pub any_moment : (frames : List VaultFrameText) → broken_by before.journal ≡ None → IsVaultOf frames before (content old) (images old) →
      LeavesOnly moment left_since old new (GivesWithOrWithout (vault_records frames) body)
  pub within_after : IsWithin after.journal (content new)
  pub whole : OnOk result ((broken_by before.journal ≡ None) × (broken_by after.journal ≡ None))
  pub failed_breaks : IsErrOf result Failed → broken_by after.journal ≡ Some Failed
  pub stays_broken : StaysBroken before.journal after.journal

-- The record of an update.

-- if it is appended, it follows the records of the journal. A crash at any moment of the call leaves those, with or without this one. If it is
-- refused and the journal isn't broken after that, disk and records are unchanged. The file has the commit byte after the records
pub record Appends {T D : Type 0} (content : D → Option (List ℕ)) (images : D → List ℕ → Type 0) (moment : D → ℕ) (left_since : D → ℕ → List ℕ → Type 0) (old new : D)
    (result : Result T DeviceFault) (before after : Journal) (body : List ℕ) : Type 0 where
  pub added : OnOk result ((payloads : List (List ℕ)) → IsJournalOf payloads before (content old) (images old) → IsJournalOf (payloads ++ body ∷ []) after (content new) (images new))
  pub any_moment : (payloads : List (List ℕ)) → broken_by before ≡ None → IsJournalOf payloads before (content old) (images old) →
      LeavesOnly moment left_since old new (GivesWithOrWithout payloads body)
  pub kept : OnErr result (broken_by after ≡ None → (new ≡ old) × ((payloads : List (List ℕ)) → IsJournalOf payloads before (content old) (images old) → IsJournalOf payloads after (content old) (images old)))
  pub within_after : IsWithin after (content new)

-- a broken journal appends nothing, reports why it is broken, and changes nothing. If a journal is broken after a refusal, the refusal reported why;
-- and a fault of the disk breaks it
pub record Breaks {T D : Type 0} (old new : D) (result : Result T DeviceFault) (before after : Journal) : Type 0 where
  pub whole : OnOk result ((broken_by before ≡ None) × (broken_by after ≡ None))
  pub broken : IfSome (broken_by before) (λ why. (result ≡ Err why) × (after ≡ before) × (new ≡ old))
  pub breaks : IfErr result (λ fault. IfSome (broken_by after) (λ why. fault ≡ why))
  pub failed_breaks : IsErrOf result Failed → broken_by after ≡ Some Failed

-- the disk's count of faults never falls. It rises if a fault is reported and the journal wasn't broken before; it stays if none is reported
pub record CountsAppend {T : Type 0} (result : Result T DeviceFault) (journal : Journal) (before now : ℕ) : Type 0 where
  pub later : before ≤ now
  pub failed : IsErrOf result Failed → broken_by journal ≡ None → Rose before now
  pub steady : result ≢ Err Failed → now ≡ before
