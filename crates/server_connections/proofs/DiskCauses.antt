-- The disk over an answer of the store, and over a step of a connection.
use Rattle.std.proofs.Common.{◌≡◌, ◌⊎◌, inl, inr, ℕ, List, ◌≤◌, Some, None, Ok, Err, refl, sym, subst, ◌∙◌}
use Rattle.std.specs.Prelude.{◌≢◌, IsSome, IfSome}
use Rattle.std.specs.declared.option.Option.{Option}
use Rattle.std.specs.declared.result.Result.{Result}
use Rattle.keyed_fn.specs.KeyedFn.{KeyedFn}
use Rattle.sse_outside.specs.Causes.{Rose}
use Rattle.sse_frames.specs.Replies.{ReplyText}
use Rattle.server_core.specs.State.{ServerState}
use Rattle.sse_server.specs.declared.store_answer.StoreAnswer.{StoreAnswer}
use Rattle.sse_server.specs.declared.store_answer.StoreAnswer.TheVariants as answers
use Rattle.sse_server.specs.Answers.{fault_answer}
use Rattle.sse_outside.specs.declared.device_fault.DeviceFault.{DeviceFault}
use Rattle.sse_outside.specs.declared.device_fault.DeviceFault.TheVariants as devices
use Rattle.server_core.specs.declared.answer.Answer.{Answer}
use Rattle.server_core.specs.declared.answer.Answer.TheVariants as cores
use Rattle.tcp_service.specs.declared.conn_end.ConnEnd.{ConnEnd}
use Rattle.tcp_service.specs.declared.conn_end.ConnEnd.TheVariants.{BadFrame}
use Rattle.tcp_service.specs.Disks.{IsSteady, EndsDisk, HasDiskCause}
use Rattle.tcp_service.proofs.DiskCauses.{cut-end}
use Rattle.server_connections.specs.Handled.{AnswersDisk}
use Rattle.server_connections.specs.ConnectionSteps.{IsReplied, IsSaidLast}

no_fault : (core : Answer) → answers.Answered core ≡ answers.StoreFault → ⊥
no_fault core e = cc

module _ (sound sound2 : Type 0) (faults now : ℕ) where
  pub disk-refused : (written written2 : Option (List ℕ)) (reply : ReplyText) (end : ConnEnd) → IsSaidLast written written2 reply BadFrame end → IsSteady sound sound2 faults now → EndsDisk sound sound2 faults now end
  disk-refused written written2 reply end (inl said) steady = subst (λ e. EndsDisk sound sound2 faults now e) (sym said.0) steady
  disk-refused written written2 reply end (inr unsaid) steady = cut-end sound sound2 faults now end unsaid.end_is (inl steady)

  pub disk-replied : (f : KeyedFn) (written written2 : Option (List ℕ)) (state : ServerState) (answer : StoreAnswer) (page : List ℕ) (result : Result Unit ConnEnd)
      → IsReplied f written written2 state answer page result → AnswersDisk sound sound2 faults now answer → HasDiskCause sound sound2 faults now result
  disk-replied f written written2 state (answers.Answered answer) page (Ok _) replied steady = steady
  disk-replied f written written2 state answers.StoreFault page (Ok _) replied fell = absurd (replied.0 refl)
  disk-replied f written written2 state (answers.Answered answer) page (Err end) (inl unsaid) steady = cut-end sound sound2 faults now end unsaid.end_is (inl steady)
  disk-replied f written written2 state (answers.Answered answer) page (Err end) (inr failed) steady = absurd (no_fault answer failed.0)
  disk-replied f written written2 state answers.StoreFault page (Err end) (inl unsaid) fell = cut-end sound sound2 faults now end unsaid.end_is (inr fell)
  disk-replied f written written2 state answers.StoreFault page (Err end) (inr failed) fell = subst (λ e. EndsDisk sound sound2 faults now e) (sym failed.1) fell

-- What a store's clauses say of its disk, by what broke its journal.

rose_once : (before : Option DeviceFault) (faults now : ℕ) (taken : Type 0) → before ≢ Some devices.Failed → (before ≡ None → Rose faults now) → taken
    → IfSome before (λ why. taken → (answers.StoreFault ≡ fault_answer why) ⊎ (answers.StoreFault ≡ answers.Answered cores.NoMemory)) → Rose faults now
rose_once None faults now taken sound failed is stays = failed refl
rose_once (Some devices.Failed) faults now taken sound failed is stays = absurd (sound refl)
rose_once (Some devices.NoMemory) faults now taken sound failed is stays = elim (stays is) [
  | inl e ↦ absurd (no_fault cores.NoMemory (sym e))
  | inr e ↦ absurd (no_fault cores.NoMemory (sym e))
]

stays_sound : (before after : Option DeviceFault) (core : Answer) → before ≢ Some devices.Failed → (IsSome before → after ≡ before) → (before ≡ None → IfSome after (λ why. answers.Answered core ≡ fault_answer why))
    → after ≢ Some devices.Failed
stays_sound None after core sound still breaks = λ is. no_fault core (subst (λ o. IfSome o (λ why. answers.Answered core ≡ fault_answer why)) is (breaks refl))
stays_sound (Some why) after core sound still breaks = λ is. sound (sym (still refl) ∙ is)

pub disk-handled : (before after : Option DeviceFault) (faults now : ℕ) (taken : Type 0) (answer : StoreAnswer) → faults ≤ now → (answer ≡ answers.StoreFault → before ≡ None → Rose faults now)
    → (answer ≢ answers.StoreFault → now ≡ faults) → (answer ≡ answers.StoreFault → taken)
    → IfSome before (λ why. taken → (answer ≡ fault_answer why) ⊎ (answer ≡ answers.Answered cores.NoMemory)) → (IsSome before → after ≡ before) → (before ≡ None → IfSome after (λ why. answer ≡ fault_answer why))
    → AnswersDisk (before ≢ Some devices.Failed) (after ≢ Some devices.Failed) faults now answer
disk-handled before after faults now taken (answers.Answered core) later failed steady fault stays still breaks = record {
  count = steady (λ e. no_fault core e);
  stays = λ sound. stays_sound before after core sound still breaks;
}
disk-handled before after faults now taken answers.StoreFault later failed steady fault stays still breaks = record {
  later = later;
  rose = λ sound. rose_once before faults now taken sound (failed refl) (fault refl) stays;
}
