-- The status of a run that stops for a cause.
use Rattle.std.specs.Prelude.{ℕ}
use Rattle.sse_script.specs.Shown.{Cause, BadWords, BadLine, SourceFault, LinkFault, DiskFault, NoMemory, LabelClash, PlaceClash, NumberClash, Clash, PeerElsewhere, BadReply, NoJournal, HasRecords, BadRecord, WrongKey}

-- the status for each cause
abbrev pub cause_status : Cause → ℕ
cause_status BadWords = 2
cause_status (BadLine number) = 2
cause_status SourceFault = 3
cause_status LinkFault = 5
cause_status DiskFault = 6
cause_status NoMemory = 7
cause_status (LabelClash first second) = 8
cause_status (PlaceClash first second) = 8
cause_status (NumberClash first second) = 8
cause_status (Clash what place) = 8
cause_status (PeerElsewhere low high got) = 9
cause_status (BadReply reply) = 9
cause_status NoJournal = 10
cause_status HasRecords = 10
cause_status (BadRecord number) = 10
cause_status WrongKey = 11
