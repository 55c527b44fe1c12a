-- A store at the other end of a link, with its disk: the contents of its file, and the parts that a link to it keeps.
use Rattle.std.specs.Prelude.{◌≡◌, ◌≢◌, ℕ, List, ◌++◌, All, Option, Some, IfSome}
use Rattle.sse_outside.specs.Causes.{Rose}
use Rattle.sse_outside.specs.declared.device_fault.DeviceFault.TheVariants.{Failed}
use Rattle.keyed_fn.specs.KeyedFn.{KeyedFn}
use Rattle.sse_frames.specs.Frames.{FrameText}
use Rattle.sse_journal.specs.Files.{IsPayload, file}
use Rattle.sse_journal.specs.JournalView.{broken_by}
use Rattle.server_core.specs.State.{ServerState, at_first}
use Rattle.sse_server.specs.StoreView.{StoreView, IsStoreOf, IsWithin}
use Rattle.sse_server.specs.Taken.{taken_all, bodies}
use Rattle.def_link_events.specs.Events.{Event, AreStepped}
use Rattle.def_link_events.specs.Taken.{AreSent, frames_taken, bodies_taken}
use Rattle.def_link_events.specs.declared.mark.Mark.TheVariants.{StoreFailed}
use Rattle.sse_link.specs.declared.due.Due.{Due}
use Rattle.sse_link.specs.Marks.{mark_of}
use Rattle.sse_link.specs.Steady.{IsTelling}
use Rattle.sse_link.specs.LinkStates.{LinkState}

-- what the file at the other end holds: where it was the journal of these records, and each of the frames that were sent was
-- answered by the server's step, it is the journal of these and of the bodies of those frames that were taken as updates
abbrev pub IsStored : KeyedFn → LinkState → Type 0
IsStored f told =
    (payloads : List (List ℕ)) (frames : List FrameText) → All IsPayload payloads → told.began_file ≡ Some (file payloads) → AreSent frames told.events → AreStepped told.events
    → told.file ≡ Some (file (payloads ++ bodies_taken f told.began frames))

-- a store has taken frames, and they are all of its journal, over a disk that holds that and nothing else
pub record HasTaken (store : StoreView) (content : Option (List ℕ)) (images : List ℕ → Type 0) : Type 0 where
  pub frames : List FrameText
  pub is : IsStoreOf frames store content images

-- no two states of such a disk are before and after a call that failed
abbrev pub NeverRises : {D : Type 0} → (faults : D → ℕ) → Type 0
NeverRises {D} faults = (before now : D) → Rose (faults before) (faults now) → ⊥

-- a store that began with these bytes in its file, and where each frame since was answered by its step, has taken those of them
-- that are updates
pub record HasStored (f : KeyedFn) (events : List Event) (began : ServerState) (bytes : List ℕ) (store : StoreView) (content : Option (List ℕ)) (images : List ℕ → Type 0) : Type 0 where
  pub before : List FrameText
  pub began_is : began ≡ taken_all at_first before
  pub bytes_are : bytes ≡ file (bodies before)
  pub payloads_are : All IsPayload (bodies before)
  pub frames : List FrameText
  pub sent : AreSent frames events
  pub now_is : AreStepped events → IsStoreOf (before ++ frames_taken f began frames) store content images

-- what a link to a store keeps, over a disk that may never fail
pub record IsFar (f : KeyedFn) (never : Type 0) (events : List Event) (began : ServerState) (began_file : Option (List ℕ)) (store : StoreView) (content : Option (List ℕ)) (images : List ℕ → Type 0) (due : Due) (page : List ℕ) : Type 0 where
  pub telling : IsTelling f events began store.state due page
  pub within : IsWithin store.journal content
  pub sound : never → broken_by store.journal ≢ Some Failed
  pub no_fault : never → mark_of due ≢ StoreFailed
  pub stored : IfSome began_file (λ bytes. HasStored f events began bytes store content images)
