-- What the servers of many owners do with a frame of the chosen one.
use Rattle.std.specs.Prelude.{◌≡◌, ◌≢◌, ◌⊎◌, ℕ, ◌+◌, ◌≤◌, List, [], ◌∷◌, None, Some, IsSome, IfSome}
use Rattle.keyed_fn.specs.KeyedFn.{KeyedFn}
use Rattle.sse_outside.specs.Causes.{Rose}
use Rattle.sse_outside.specs.declared.device_fault.DeviceFault.TheVariants.{Failed}
use Rattle.sse_frames.specs.Frames.{FrameText}
use Rattle.sse_journal.specs.JournalView.{records_of, broken_by}
use Rattle.sse_journal.specs.declared.journal.Journal.{Journal}
use Rattle.server_core.specs.State.{ServerState}
use Rattle.server_core.specs.Step.{step}
use Rattle.server_core.specs.Views.{HasBegun, HasRange}
use Rattle.server_core.specs.declared.answer.Answer.TheVariants.{Took, NoMemory}
use Rattle.sse_server.specs.Answers.{IfAnswered, fault_answer, store_replies}
use Rattle.sse_server.specs.Taken.{IsTaken}
use Rattle.sse_server.specs.declared.store_answer.StoreAnswer.{StoreAnswer}
use Rattle.sse_server.specs.declared.store_answer.StoreAnswer.TheVariants.{Answered, StoreFault}
use Rattle.sse_owners.specs.Owned.{OwnedFrame, owned}

-- the answer is that of the server's step; or in place of taking an update frame it is out of memory or a fault of the disk,
-- and the state stays. After a search the page begins with what it gives first
pub record IsAnsweredBy (f : KeyedFn) (before : ServerState) (frame : FrameText) (answer : StoreAnswer) (page : List ℕ) (after : ServerState) : Type 0 where
  pub state : answer ≢ Answered NoMemory → answer ≢ StoreFault → after ≡ (step f before frame).0
  pub replies_are : answer ≢ Answered NoMemory → answer ≢ StoreFault → store_replies f after answer page ≡ (step f before frame).1
  pub no_memory : answer ≡ Answered NoMemory → (after ≡ before) × IsTaken before frame
  pub store_fault : answer ≡ StoreFault → (after ≡ before) × IsTaken before frame
  pub begun : IfAnswered answer (λ core. HasBegun f after core page)
  pub range : IfAnswered answer (λ core. HasRange core)

-- the frame that was taken, of this owner, if it was
abbrev pub taken_by : (owner : ℕ) → FrameText → StoreAnswer → List OwnedFrame
taken_by owner frame (Answered (Took q)) = owned owner frame ∷ []
taken_by owner frame _ = []

-- the journal and the disk: a frame that isn't taken leaves both as they were, and so does every frame once an append was refused
pub record KeepsJournal {D : Type 0} (before : ServerState) (frame : FrameText) (answer : StoreAnswer) (journal journal2 : Journal) (disk disk2 : D) : Type 0 where
  pub untouched : (IsTaken before frame → ⊥) → (disk2 ≡ disk) × (journal2 ≡ journal)
  pub counted : (q : ℕ) → answer ≡ Answered (Took q) → records_of journal2 ≡ records_of journal + 1
  pub sound : (q : ℕ) → answer ≡ Answered (Took q) → (broken_by journal ≡ None) × (broken_by journal2 ≡ None)
  pub broken : IsSome (broken_by journal) → (disk2 ≡ disk) × (journal2 ≡ journal)
  pub stays_broken : IfSome (broken_by journal) (λ why. IsTaken before frame → (answer ≡ fault_answer why) ⊎ (answer ≡ Answered NoMemory))
  pub breaks : broken_by journal ≡ None → IfSome (broken_by journal2) (λ why. answer ≡ fault_answer why)
  pub failed_breaks : answer ≡ StoreFault → broken_by journal2 ≡ Some Failed

-- the disk's count of faults: it rose at a fault that broke the journal, and stays at every other answer
pub record CountsFaults (answer : StoreAnswer) (journal : Journal) (faults now : ℕ) : Type 0 where
  pub later : faults ≤ now
  pub failed : answer ≡ StoreFault → broken_by journal ≡ None → Rose faults now
  pub steady : answer ≢ StoreFault → now ≡ faults
