-- The stop of a run for each fault of its journal and of its records.
use Rattle.std.specs.Prelude.{◌≡◌, ◌≢◌, Result, Err, IsOk}
use Rattle.client_rebuild.specs.declared.fault.RebuildFault.{RebuildFault}
use Rattle.client_rebuild.specs.declared.fault.RebuildFault.TheVariants as takes
use Rattle.script_run_texts.specs.declared.journal_stop.JournalStop.{JournalStop}
use Rattle.script_run_texts.specs.declared.journal_stop.JournalStop.TheVariants.{NoJournal, BadRecord, Disk, Memory}
use Rattle.sse_journal.specs.declared.read_fault.ReadFault.{ReadFault}
use Rattle.sse_journal.specs.declared.read_fault.ReadFault.TheVariants as reads
use Rattle.sse_journal.specs.declared.start_fault.StartFault.{StartFault}
use Rattle.sse_journal.specs.declared.start_fault.StartFault.TheVariants as starts

-- the journal isn't started
abbrev pub stop_of_start : StartFault → JournalStop
stop_of_start starts.DiskFault = Disk
stop_of_start (starts.NotAJournal place) = NoJournal
stop_of_start starts.NoMemory = Memory

-- a record isn't read
abbrev pub stop_of_read : ReadFault → JournalStop
stop_of_read reads.DiskFault = Disk
stop_of_read (reads.NotAJournal place) = NoJournal
stop_of_read reads.NoMemory = Memory

-- one isn't taken
abbrev pub stop_of_take : RebuildFault → JournalStop
stop_of_take (takes.BadRecord number) = BadRecord number
stop_of_take takes.NoMemory = Memory

-- The result of a call, unless the disk failed or it is out of memory.

-- it ends for this
abbrev pub EndsFor : {T : Type 0} (stop : JournalStop) → Result T JournalStop → Type 0
EndsFor stop result = result ≢ Err Disk → result ≢ Err Memory → result ≡ Err stop

-- it goes on
abbrev pub GoesOn : {T : Type 0} → Result T JournalStop → Type 0
GoesOn result = result ≢ Err Disk → result ≢ Err Memory → IsOk result
