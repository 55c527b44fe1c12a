-- The stops of a run: the cause in its last line, and its status (docs/FORMATS.md).
use Rattle.std.specs.Prelude.{ℕ, List, [], Option, None, Some}
use Rattle.std.specs.Option.{option_map_or}
use Rattle.sse_outside.specs.declared.device_fault.DeviceFault.{DeviceFault}
use Rattle.sse_outside.specs.declared.device_fault.DeviceFault.TheVariants as devices
use Rattle.sse_script.specs.Shown.{Cause, Stopped, BadWords, BadLine, SourceFault, LinkFault, DiskFault, NoMemory, LabelClash, PlaceClash, NumberClash, Clash, PeerElsewhere, BadReply, NoJournal, HasRecords, BadRecord, WrongKey}
use Rattle.sse_script.specs.Stops.{cause_status}
use Rattle.sse_script.specs.Texts.{text_of}
use Rattle.sse_script.specs.declared.read_stop.ReadStop.{ReadStop}
use Rattle.sse_script.specs.declared.read_stop.ReadStop.TheVariants as reads
use Rattle.script_run_texts.specs.declared.command_stop.CommandStop.{CommandStop}
use Rattle.script_run_texts.specs.declared.command_stop.CommandStop.TheVariants as commands
use Rattle.script_run_texts.specs.declared.input_stop.InputStop.{InputStop}
use Rattle.script_run_texts.specs.declared.input_stop.InputStop.TheVariants as inputs
use Rattle.script_run_texts.specs.declared.journal_stop.JournalStop.{JournalStop}
use Rattle.script_run_texts.specs.declared.journal_stop.JournalStop.TheVariants as journals
use Rattle.script_run_texts.specs.declared.peer_stop.PeerStop.{PeerStop}
use Rattle.script_run_texts.specs.declared.peer_stop.PeerStop.TheVariants as peers
use Rattle.script_run_texts.specs.declared.stop_cause.StopCause.{StopCause}
use Rattle.script_run_texts.specs.declared.stop_cause.StopCause.TheVariants as stops

-- what a fault of the sink, or of a reader of lines, stops

abbrev pub stop_of_sink : DeviceFault → StopCause
stop_of_sink devices.Failed = stops.Sink
stop_of_sink devices.NoMemory = stops.Memory

abbrev pub stop_of_source : ReadStop → InputStop
stop_of_source reads.Failed = inputs.Source
stop_of_source reads.NoMemory = inputs.Memory

-- the cause that is printed where the reading of the script stops a run
abbrev pub input_cause : InputStop → Cause
input_cause (inputs.Line number) = BadLine number
input_cause inputs.Source = SourceFault
input_cause inputs.Memory = NoMemory

-- where the exchange with the server stops it; of a reply its first bytes
abbrev pub peer_cause : PeerStop → Cause
peer_cause peers.Link = LinkFault
peer_cause peers.Memory = NoMemory
peer_cause (peers.Clash what place) = Clash what place
peer_cause (peers.Elsewhere low high got) = PeerElsewhere low high got
peer_cause (peers.BadReply start) = BadReply start

-- where the record of a command isn't kept
abbrev pub keep_cause : DeviceFault → Cause
keep_cause devices.Failed = DiskFault
keep_cause devices.NoMemory = NoMemory

-- where a command stops it
abbrev pub command_cause : CommandStop → Cause
command_cause (commands.LabelClash first second) = LabelClash first second
command_cause (commands.PlaceClash first second) = PlaceClash first second
command_cause (commands.NumberClash first second) = NumberClash first second
command_cause commands.Memory = NoMemory
command_cause (commands.Keeping fault) = keep_cause fault
command_cause (commands.Exchange stop) = peer_cause stop

-- the cause that is printed; none where the sink is what failed
abbrev pub stop_cause : StopCause → Option Cause
stop_cause stops.Words = Some BadWords
stop_cause (stops.Input stop) = Some (input_cause stop)
stop_cause stops.Sink = None
stop_cause stops.Memory = Some NoMemory
stop_cause (stops.Command stop) = Some (command_cause stop)

-- the last line, which tells it; nothing where there is none
abbrev pub last_line : StopCause → List ℕ
last_line stop = option_map_or (λ cause. text_of (Stopped cause)) (stop_cause stop) []

-- the status, which is that of the cause, and 4 where there is none
abbrev pub stop_status : StopCause → ℕ
stop_status stop = option_map_or cause_status (stop_cause stop) 4

-- where a run ends in the opening of its journal: the cause that is printed
abbrev pub journal_cause : JournalStop → Cause
journal_cause journals.NoJournal = NoJournal
journal_cause journals.HasRecords = HasRecords
journal_cause (journals.BadRecord number) = BadRecord number
journal_cause journals.WrongKey = WrongKey
journal_cause journals.Disk = DiskFault
journal_cause journals.Memory = NoMemory

-- the last line there, which tells it
abbrev pub journal_line : JournalStop → List ℕ
journal_line stop = text_of (Stopped (journal_cause stop))

-- the status there, which is that of the cause
abbrev pub journal_status : JournalStop → ℕ
journal_status stop = cause_status (journal_cause stop)
