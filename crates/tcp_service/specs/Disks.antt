-- The disk of a server, over a call: it was kept, or it failed.
use Rattle.std.specs.Prelude.{◌≡◌, ◌≢◌, ◌⊎◌, ℕ, ◌≤◌, Option, Some, None, Result, Ok, Err}
use Rattle.sse_journal.specs.JournalView.{broken_by}
use Rattle.sse_journal.specs.declared.journal.Journal.{Journal}
use Rattle.sse_outside.specs.Causes.{Rose}
use Rattle.sse_outside.specs.declared.device_fault.DeviceFault.TheVariants.{Failed}
use Rattle.tcp_service.specs.declared.conn_end.ConnEnd.{ConnEnd}
use Rattle.tcp_service.specs.declared.conn_end.ConnEnd.TheVariants.{Closed, CutShort, ReadFault, WriteFault, OutOfMemory, BadFrame, UnknownOwner, StoreFault}

-- the journal's disk didn't fail at a record
abbrev pub IsSound : Journal → Type 0
IsSound journal = broken_by journal ≢ Some Failed

-- a server that takes no update frame any more stays so, and leaves its disk untouched
abbrev pub StaysClosed : {D : Type 0} → (closed closed2 : Type 0) (disk disk2 : D) → Type 0
StaysClosed closed closed2 disk disk2 = closed → (disk2 ≡ disk) × closed2

-- its count of faults stays, and what was sound is
pub record IsSteady (sound sound2 : Type 0) (faults now : ℕ) : Type 0 where
  pub count : now ≡ faults
  pub stays : sound → sound2

-- it failed: if it was sound, its count of faults rose
pub record HasFallen (sound : Type 0) (faults now : ℕ) : Type 0 where
  pub later : faults ≤ now
  pub rose : sound → Rose faults now

-- one of the two
abbrev pub SoFar : (sound sound2 : Type 0) (faults now : ℕ) → Type 0
SoFar sound sound2 faults now = IsSteady sound sound2 faults now ⊎ HasFallen sound faults now

-- by how a connection ended: the reply that tells of a store fault may have been cut
abbrev pub EndsDisk : (sound sound2 : Type 0) (faults now : ℕ) → ConnEnd → Type 0
EndsDisk sound sound2 faults now Closed = IsSteady sound sound2 faults now
EndsDisk sound sound2 faults now CutShort = IsSteady sound sound2 faults now
EndsDisk sound sound2 faults now ReadFault = IsSteady sound sound2 faults now
EndsDisk sound sound2 faults now WriteFault = SoFar sound sound2 faults now
EndsDisk sound sound2 faults now OutOfMemory = SoFar sound sound2 faults now
EndsDisk sound sound2 faults now BadFrame = IsSteady sound sound2 faults now
EndsDisk sound sound2 faults now UnknownOwner = IsSteady sound sound2 faults now
EndsDisk sound sound2 faults now StoreFault = HasFallen sound faults now

-- by what a step came to
abbrev pub HasDiskCause : (sound sound2 : Type 0) (faults now : ℕ) → Result Unit ConnEnd → Type 0
HasDiskCause sound sound2 faults now (Ok _) = IsSteady sound sound2 faults now
HasDiskCause sound sound2 faults now (Err end) = EndsDisk sound sound2 faults now end

-- by how the next connection ended, if there was one
abbrev pub ServesDisk : {E : Type 0} → (sound sound2 : Type 0) (faults now : ℕ) → Result (Option ConnEnd) E → Type 0
ServesDisk sound sound2 faults now (Ok (Some end)) = EndsDisk sound sound2 faults now end
ServesDisk sound sound2 faults now (Ok None) = IsSteady sound sound2 faults now
ServesDisk sound sound2 faults now (Err e) = IsSteady sound sound2 faults now
