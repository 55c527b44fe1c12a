-- A keeper's answer to a frame.
use Rattle.std.specs.Prelude.{◌≡◌, ◌≢◌, ◌⊎◌, ℕ, List, [], ◌∷◌, ◌++◌, Option, None}
use Rattle.keyed_fn.specs.KeyedFn.{KeyedFn}
use Rattle.sse_frames.specs.Frames.{FrameText}
use Rattle.server_core.specs.State.{ServerState, at_first}
use Rattle.server_core.specs.Step.{step}
use Rattle.server_core.specs.declared.answer.Answer.TheVariants as answers
use Rattle.sse_owners.specs.Owned.{OwnedFrame}
use Rattle.sse_server.specs.Answers.{store_replies}
use Rattle.sse_server.specs.Taken.{IsTaken, AreTaken, taken_all, bodies}
use Rattle.sse_server.specs.StoreView.{StoreView}
use Rattle.sse_journal.specs.Files.{Gives}
use Rattle.sse_journal.specs.JournalView.{broken_by, IsJournalOf}
use Rattle.sse_server.specs.declared.store_answer.StoreAnswer.{StoreAnswer}
use Rattle.sse_server.specs.declared.store_answer.StoreAnswer.TheVariants.{Answered, StoreFault}
use Rattle.tcp_service.specs.Disks.{IsSteady, HasFallen}

-- the server's step, or out of memory or a fault of the disk in place of taking an update frame
pub record IsHandled (f : KeyedFn) (before : ServerState) (frame : FrameText) (answer : StoreAnswer) (page : List ℕ) (after : ServerState) : Type 0 where
  pub state : answer ≢ Answered answers.NoMemory → answer ≢ StoreFault → after ≡ (step f before frame).0
  pub replies_are : answer ≢ Answered answers.NoMemory → answer ≢ StoreFault → store_replies f after answer page ≡ (step f before frame).1
  pub no_memory : answer ≡ Answered answers.NoMemory → (after ≡ before) × IsTaken before frame
  pub store_fault : answer ≡ StoreFault → (after ≡ before) × IsTaken before frame

-- the frame that was taken, where it was
abbrev pub taken_by : FrameText → StoreAnswer → List FrameText
taken_by frame (Answered (answers.Took q)) = frame ∷ []
taken_by frame _ = []

-- the numbers of all owners, the one whose frames are answered, and the frames of all of them that were taken before
pub record Since : Type 0 where
  pub numbers : List ℕ
  pub owner : ℕ
  pub taken : List OwnedFrame

-- where frames lasted before a call, they and these last after it, whatever was taken before them
abbrev pub Last : (lasts lasts2 : Since → List FrameText → Type 0) → List FrameText → Type 0
Last lasts lasts2 more = (since : Since) (frames : List FrameText) → lasts since frames → lasts2 since (frames ++ more)

-- the disk, by what was answered to a frame
abbrev pub AnswersDisk : (sound sound2 : Type 0) (faults now : ℕ) → StoreAnswer → Type 0
AnswersDisk sound sound2 faults now (Answered answer) = IsSteady sound sound2 faults now
AnswersDisk sound sound2 faults now StoreFault = HasFallen sound faults now

-- a start from this file gives these frames and at most one more, which a server takes after them
abbrev pub GivesAtMostOneMore : List FrameText → (bytes : List ℕ) → Type 0
GivesAtMostOneMore frames bytes =
    Gives (bodies frames) bytes
    ⊎ ((refused : FrameText) × IsTaken (taken_all at_first frames) refused × Gives (bodies (frames ++ refused ∷ [])) bytes)

-- a store has taken these frames; unless its journal is broken they are all of it, and broken or not, the file that a crash
-- leaves gives them, with at most the one more that a fault of the disk kept from being taken
pub record IsLasting (frames : List FrameText) (store : StoreView) (content : Option (List ℕ)) (images : List ℕ → Type 0) : Type 0 where
  pub are_taken : AreTaken at_first frames
  pub state_is : store.state ≡ taken_all at_first frames
  pub whole : broken_by store.journal ≡ None → IsJournalOf (bodies frames) store.journal content images
  pub left : (bytes : List ℕ) → images bytes → GivesAtMostOneMore frames bytes
