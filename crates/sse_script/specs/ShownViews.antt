-- A cause and a line to be printed, seen as what they say: their bytes are borrowed.
use Rattle.sse_script.specs.Shown as says
use Rattle.sse_script.specs.declared.cause.Cause.{Cause}
use Rattle.sse_script.specs.declared.cause.Cause.TheVariants.{BadWords, BadLine, SourceFault, LinkFault, DiskFault, NoMemory, LabelClash, PlaceClash, NumberClash, Clash, PeerElsewhere, BadReply, NoJournal, HasRecords, BadRecord, WrongKey}
use Rattle.sse_script.specs.declared.shown.Shown.{Shown}
use Rattle.sse_script.specs.declared.shown.Shown.TheVariants.{SetUp, Rebuilt, Added, Deleted, Found, Matched, Resumed, Refused, Stopped}

-- why a run stopped
abbrev pub cause_view : Cause → says.Cause
cause_view BadWords = says.BadWords
cause_view (BadLine number) = says.BadLine number
cause_view SourceFault = says.SourceFault
cause_view LinkFault = says.LinkFault
cause_view DiskFault = says.DiskFault
cause_view NoMemory = says.NoMemory
cause_view (LabelClash first second) = says.LabelClash first second
cause_view (PlaceClash first second) = says.PlaceClash first second
cause_view (NumberClash first second) = says.NumberClash first second
cause_view (Clash what place) = says.Clash what place
cause_view (PeerElsewhere low high got) = says.PeerElsewhere low high got
cause_view (BadReply reply) = says.BadReply reply.now
cause_view NoJournal = says.NoJournal
cause_view HasRecords = says.HasRecords
cause_view (BadRecord number) = says.BadRecord number
cause_view WrongKey = says.WrongKey

-- what a line to be printed says
abbrev pub shown_view : Shown → says.Shown
shown_view (SetUp words blocks) = says.SetUp words blocks
shown_view (Rebuilt words blocks) = says.Rebuilt words blocks
shown_view (Added id) = says.Added id
shown_view (Deleted id) = says.Deleted id
shown_view (Found ids) = says.Found ids.now
shown_view (Matched ids) = says.Matched ids.now
shown_view (Resumed frames) = says.Resumed frames
shown_view (Refused refusal) = says.Refused refusal
shown_view (Stopped cause) = says.Stopped (cause_view cause)
