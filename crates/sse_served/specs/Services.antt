-- The effect of a service over a disk and connections, from the file on.
use Rattle.std.specs.Prelude.{◌≡◌, ◌≢◌, ◌⊎◌, ◌+◌, ◌≤◌, ℕ, Bool, true, List, [], Option, Result, Ok, Err, OnOk, IsErr, IfSome}
use Rattle.keyed_fn.specs.KeyedFn.{KeyedFn}
use Rattle.sse_outside.specs.Causes.{Rose}
use Rattle.sse_frames.specs.Frames.{FrameText}
use Rattle.sse_journal.specs.Files.{Gives}
use Rattle.sse_journal.specs.Walks.{IsNoJournalAt}
use Rattle.server_core.specs.State.{at_first}
use Rattle.sse_server.specs.Records.{HasBadRecord}
use Rattle.sse_server.specs.StoreView.{StoreView, IsStoreFrom}
use Rattle.sse_server.specs.Taken.{AreTaken, bodies}
use Rattle.sse_owners.specs.Owned.{OwnedFrame, AreOwnTaken, records}
use Rattle.sse_owners.specs.OwnedRecords.{HasBadOwned}
use Rattle.sse_owners.specs.OwnersView.{OwnersView}
use Rattle.tcp_service.specs.declared.duplex.Duplex.{Duplex}
use Rattle.server_connections.specs.Handled.{IsLasting}
use Rattle.server_connections.specs.OwnerConnections.{HaveOwnersServed}
use Rattle.server_connections.specs.Served.{HaveServed}

-- the bytes of a file that no server has written: it stops being a journal, or a record of it is bad
abbrev pub IsNoJournalBy : (HasBad : (bytes : List ℕ) (number : ℕ) → Type 0) → List ℕ → Type 0
IsNoJournalBy HasBad bytes = ((place : ℕ) × IsNoJournalAt bytes place) ⊎ ((number : ℕ) × HasBad bytes number)

-- the bad record is no frame that a server takes after those before it
abbrev pub IsNoJournal : List ℕ → Type 0
IsNoJournal bytes = IsNoJournalBy HasBadRecord bytes

-- the bytes of a file whose records are frames that a server takes from nothing on
pub record IsJournal (bytes : List ℕ) : Type 0 where
  pub frames : List FrameText
  pub are_taken : AreTaken at_first frames
  pub gives : Gives (bodies frames) bytes

-- the bad record isn't a number of one of these owners and a frame that this owner's server takes after those before it
abbrev pub IsNoOwnersJournal : (numbers bytes : List ℕ) → Type 0
IsNoOwnersJournal numbers bytes = IsNoJournalBy (HasBadOwned numbers) bytes

-- the bytes of a file whose records are frames of these owners, each of which its owner's server takes
pub record IsOwnersJournal (numbers : List ℕ) (bytes : List ℕ) : Type 0 where
  pub frames : List OwnedFrame
  pub are_taken : AreOwnTaken numbers [] frames
  pub gives : Gives (records frames) bytes

module _ {D I O : Type 0} (f : KeyedFn) (content : D → Option (List ℕ)) (images : D → List ℕ → Type 0) (remaining : I → Option (List ℕ)) (written : O → Option (List ℕ)) where
  -- a store was started that has taken the frames of the file's records, and connections were served from it, one after the other
  pub record HasServed (disk disk2 : D) (offered offered2 returned returned2 : Option (List (Duplex I O))) : Type 0 where
    pub store : StoreView
    pub store2 : StoreView
    pub started_disk : D
    pub started : IfSome (content disk) (λ bytes. IsStoreFrom bytes store (content started_disk) (images started_disk))
    pub served : HaveServed f (λ s. s.state) (λ s d since frames. IsLasting frames s (content d) (images d)) remaining written
        store store2 started_disk disk2 offered offered2 returned returned2

  -- the owners' servers were started that have taken the frames of this file's records, each its owner's, and connections were served
  -- from there, one after the other, each as that of the owner whose number it began with
  pub record HasServedFrom (numbers : List ℕ) (bytes : List ℕ) (disk2 : D) (offered offered2 returned returned2 : Option (List (Duplex I O))) : Type 0 where
    pub frames : List OwnedFrame
    pub gives : Gives (records frames) bytes
    pub owners2 : OwnersView
    pub served : HaveOwnersServed f remaining written numbers frames owners2 (content disk2) (images disk2) offered offered2 returned returned2

  -- the same from the file of a disk, if it shows what it holds
  abbrev pub HasServedOwners : (numbers : List ℕ) (disk disk2 : D) (offered offered2 returned returned2 : Option (List (Duplex I O))) → Type 0
  HasServedOwners numbers disk disk2 offered offered2 returned returned2 = IfSome (content disk) (λ bytes. HasServedFrom numbers bytes disk2 offered offered2 returned returned2)
