-- The lines that a run prints, by what they say. Why a command was refused is an enum of the code, which borrows nothing.
use Rattle.std.specs.Prelude.{ℕ, List}
use Rattle.sse_script.specs.declared.refusal.Refusal.{Refusal}

-- why a run stopped before the end of its script
pub data Cause : Type 0 where
  BadWords : Cause
  BadLine : (number : ℕ) → Cause
  SourceFault : Cause
  LinkFault : Cause
  DiskFault : Cause
  NoMemory : Cause
  LabelClash : (first second : ℕ) → Cause
  PlaceClash : (first second : ℕ) → Cause
  NumberClash : (first second : ℕ) → Cause
  Clash : (what place : ℕ) → Cause
  PeerElsewhere : (low high got : ℕ) → Cause
  BadReply : (reply : List ℕ) → Cause
  NoJournal : Cause
  HasRecords : Cause
  BadRecord : (number : ℕ) → Cause
  WrongKey : Cause

-- what one printed line says
pub data Shown : Type 0 where
  SetUp : (words blocks : ℕ) → Shown
  Rebuilt : (words blocks : ℕ) → Shown
  Added : (id : ℕ) → Shown
  Deleted : (id : ℕ) → Shown
  Found : (ids : List ℕ) → Shown
  Matched : (ids : List ℕ) → Shown
  Resumed : (frames : ℕ) → Shown
  Refused : Refusal → Shown
  Stopped : Cause → Shown
