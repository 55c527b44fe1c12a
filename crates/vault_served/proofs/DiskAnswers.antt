-- The disk over an answer of the vault, and over a step of a connection.
use Rattle.std.proofs.Common.{◌≡◌, ◌≢◌, ◌⊎◌, inl, inr, ℕ, ◌≤◌, List, Some, None, Ok, Err, refl, sym, subst, ◌∙◌}
use Rattle.std.specs.Prelude.{IsSome, IfSome}
use Rattle.std.specs.declared.option.Option.{Option}
use Rattle.std.specs.declared.result.Result.{Result}
use Rattle.sse_outside.specs.Causes.{Rose}
use Rattle.sse_outside.specs.declared.device_fault.DeviceFault.{DeviceFault}
use Rattle.sse_outside.specs.declared.device_fault.DeviceFault.TheVariants as devices
use Rattle.tcp_service.specs.declared.conn_end.ConnEnd.{ConnEnd}
use Rattle.tcp_service.specs.declared.conn_end.ConnEnd.TheVariants as ends
use Rattle.tcp_service.specs.Disks.{EndsDisk, HasDiskCause, HasFallen, IsSteady}
use Rattle.tcp_service.proofs.DiskCauses.{cut-end}
use Rattle.vault_server.specs.VaultAnswers.{fault_answer}
use Rattle.vault_server.specs.VaultFrames.{VaultReplyText}
use Rattle.vault_server.specs.VaultState.{VaultState}
use Rattle.vault_server.specs.declared.vault_answer.VaultAnswer.{VaultAnswer}
use Rattle.vault_server.specs.declared.vault_answer.VaultAnswer.TheVariants as answers
use Rattle.vault_served.specs.Steps.{AnswersDisk, IsReplied, IsSaidLast}

pub store_fault_or_not : (answer : VaultAnswer) → (answer ≡ answers.StoreFault) ⊎ (answer ≢ answers.StoreFault)
store_fault_or_not (answers.Took n) = inr (λ e. absurd cc)
store_fault_or_not (answers.Holds slot) = inr (λ e. absurd cc)
store_fault_or_not (answers.Next n) = inr (λ e. absurd cc)
store_fault_or_not answers.Clash = inr (λ e. absurd cc)
store_fault_or_not answers.NoMemory = inr (λ e. absurd cc)
store_fault_or_not answers.StoreFault = inl refl
store_fault_or_not answers.BadFrame = inr (λ e. absurd cc)

module _ (sound sound2 : Type 0) (faults now : ℕ) where
  by_answer : (answer : VaultAnswer) → (answer ≡ answers.StoreFault → HasFallen sound faults now) → (answer ≢ answers.StoreFault → IsSteady sound sound2 faults now) → AnswersDisk sound sound2 faults now answer
  by_answer (answers.Took n) fell steady = steady (λ e. absurd cc)
  by_answer (answers.Holds slot) fell steady = steady (λ e. absurd cc)
  by_answer (answers.Next n) fell steady = steady (λ e. absurd cc)
  by_answer answers.Clash fell steady = steady (λ e. absurd cc)
  by_answer answers.NoMemory fell steady = steady (λ e. absurd cc)
  by_answer answers.StoreFault fell steady = fell refl
  by_answer answers.BadFrame fell steady = steady (λ e. absurd cc)

  steady_of : (answer : VaultAnswer) → answer ≢ answers.StoreFault → AnswersDisk sound sound2 faults now answer → IsSteady sound sound2 faults now
  steady_of (answers.Took n) other disk = disk
  steady_of (answers.Holds slot) other disk = disk
  steady_of (answers.Next n) other disk = disk
  steady_of answers.Clash other disk = disk
  steady_of answers.NoMemory other disk = disk
  steady_of answers.StoreFault other disk = absurd (other refl)
  steady_of answers.BadFrame other disk = disk

  pub disk-refused : (written written2 : Option (List ℕ)) (reply : VaultReplyText) (end : ConnEnd) → IsSaidLast written written2 reply ends.BadFrame end → IsSteady sound sound2 faults now → EndsDisk sound sound2 faults now end
  disk-refused written written2 reply end (inl said) steady = subst (λ e. EndsDisk sound sound2 faults now e) (sym said.0) steady
  disk-refused written written2 reply end (inr unsaid) steady = cut-end sound sound2 faults now end unsaid.end_is (inl steady)

  pub disk-replied : (written written2 : Option (List ℕ)) (state : VaultState) (answer : VaultAnswer) (result : Result Unit ConnEnd)
      → IsReplied written written2 state answer result → AnswersDisk sound sound2 faults now answer → HasDiskCause sound sound2 faults now result
  disk-replied written written2 state answer (Ok _) replied disk = steady_of answer replied.0 disk
  disk-replied written written2 state answer (Err end) (inl unsaid) disk = elim (store_fault_or_not answer) [
    | inl fault ↦ cut-end sound sound2 faults now end unsaid.end_is (inr (subst (λ a. AnswersDisk sound sound2 faults now a) fault disk))
    | inr other ↦ cut-end sound sound2 faults now end unsaid.end_is (inl (steady_of answer other disk))
  ]
  disk-replied written written2 state answer (Err end) (inr failed) disk =
      subst (λ e. EndsDisk sound sound2 faults now e) (sym failed.1) (subst (λ a. AnswersDisk sound sound2 faults now a) failed.0 disk)

-- What an answer's clauses say of the disk, by what broke the journal.

rose_once : (before after : Option DeviceFault) (faults now : ℕ) → before ≢ Some devices.Failed → (before ≡ None → Rose faults now) → (IsSome before → after ≡ before) → after ≡ Some devices.Failed → Rose faults now
rose_once None after faults now sound failed still broke = failed refl
rose_once (Some why) after faults now sound failed still broke = absurd (sound (sym (still refl) ∙ broke))

stays_sound : (before after : Option DeviceFault) (answer : VaultAnswer) → answer ≢ answers.StoreFault → before ≢ Some devices.Failed → (IsSome before → after ≡ before) → (before ≡ None → IfSome after (λ why. answer ≡ fault_answer why))
    → after ≢ Some devices.Failed
stays_sound None after answer other sound still breaks = λ is. other (subst (λ (o : Option DeviceFault). IfSome o (λ why. answer ≡ fault_answer why)) is (breaks refl))
stays_sound (Some why) after answer other sound still breaks = λ is. sound (sym (still refl) ∙ is)

pub disk-answered : (before after : Option DeviceFault) (faults now : ℕ) (answer : VaultAnswer) → faults ≤ now → (answer ≡ answers.StoreFault → before ≡ None → Rose faults now) → (answer ≢ answers.StoreFault → now ≡ faults)
    → (answer ≡ answers.StoreFault → after ≡ Some devices.Failed) → (IsSome before → after ≡ before) → (before ≡ None → IfSome after (λ why. answer ≡ fault_answer why))
    → AnswersDisk (before ≢ Some devices.Failed) (after ≢ Some devices.Failed) faults now answer
disk-answered before after faults now answer later failed steady broke still breaks = by_answer (before ≢ Some devices.Failed) (after ≢ Some devices.Failed) faults now answer
    (λ fault. record { later = later; rose = λ sound. rose_once before after faults now sound (failed fault) still (broke fault) })
    (λ other. record { count = steady other; stays = λ sound. stays_sound before after answer other sound still breaks })
