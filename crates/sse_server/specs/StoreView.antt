-- A contract's view of a store, and the frames that it has taken.
use Rattle.std.specs.Prelude.{◌≡◌, ℕ, ◌+◌, ◌≤◌, List, length, Option, None, IfSome, refl}
use Rattle.std.specs.Coded.{Coded, code_by, coded×}
use Rattle.sse_frames.specs.Frames.{FrameText}
use Rattle.sse_journal.specs.Files.{Gives}
use Rattle.sse_journal.specs.JournalView.{end_of, broken_by, IsJournalOf}
use Rattle.sse_journal.specs.declared.journal.Journal.{Journal}
use Rattle.sse_journal.specs.contracts.journal.Journal as journals
use Rattle.server_core.specs.State.{ServerState, state_code, at_first}
use Rattle.sse_server.specs.Taken.{AreTaken, taken_all, bodies}

pub record StoreView : Type 0 where
  -- what the server holds
  pub state : ServerState
  pub journal : Journal

-- the code by which a proof tells these values apart
abbrev pub store_code : Coded StoreView
store_code = code_by (ServerState × Journal) (coded× state_code journals.the_row.coded) (λ s. (s.state, s.journal)) (λ p. record { state = p.0; journal = p.1 }) (λ _. refl)

-- it has taken these frames from nothing on, and they are all of its journal, over a disk that holds that and nothing else
pub record IsStoreOf (frames : List FrameText) (store : StoreView) (content : Option (List ℕ)) (images : List ℕ → Type 0) : Type 0 where
  pub are_taken : AreTaken at_first frames
  pub state_is : store.state ≡ taken_all at_first frames
  pub journal_is : IsJournalOf (bodies frames) store.journal content images

-- it has taken the frames whose bodies are the records that this file gives
pub record IsStoreFrom (bytes : List ℕ) (store : StoreView) (content : Option (List ℕ)) (images : List ℕ → Type 0) : Type 0 where
  pub frames : List FrameText
  pub gives : Gives (bodies frames) bytes
  pub store_is : IsStoreOf frames store content images

-- where its journal isn't broken and the disk tells its content, the commit byte after the records is in the file
abbrev pub IsWithin : Journal → Option (List ℕ) → Type 0
IsWithin journal content = broken_by journal ≡ None → IfSome content (λ bytes. end_of journal + 1 ≤ length bytes)
