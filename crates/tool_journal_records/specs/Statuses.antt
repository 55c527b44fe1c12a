-- The status that the program ends with if its request was not done.
use Rattle.std.specs.Prelude.{ℕ}
use Rattle.sse_journal.specs.declared.append_fault.AppendFault.{AppendFault}
use Rattle.sse_journal.specs.declared.append_fault.AppendFault.TheVariants as appends
use Rattle.sse_journal.specs.declared.read_fault.ReadFault.{ReadFault}
use Rattle.sse_journal.specs.declared.read_fault.ReadFault.TheVariants as reads
use Rattle.sse_journal.specs.declared.start_fault.StartFault.{StartFault}
use Rattle.sse_journal.specs.declared.start_fault.StartFault.TheVariants as starts
use Rattle.sse_outside.specs.declared.device_fault.DeviceFault.TheVariants as devices
use Rattle.tool_journal_records.specs.declared.stop.Stop.{Stop}
use Rattle.tool_journal_records.specs.declared.stop.Stop.TheVariants as stops

-- 6 where the file can't be opened, or its disk failed in this call or an earlier one; 10 where it is no journal; 7 for want of memory

abbrev pub start_status : StartFault → ℕ
start_status starts.DiskFault = 6
start_status (starts.NotAJournal place) = 10
start_status starts.NoMemory = 7

abbrev pub append_status : AppendFault → ℕ
append_status appends.DiskFault = 6
append_status appends.NoMemory = 7
append_status appends.Broken = 6

abbrev pub read_status : ReadFault → ℕ
read_status reads.DiskFault = 6
read_status (reads.NotAJournal place) = 10
read_status reads.NoMemory = 7

-- 2 for the words, 4 where standard output failed
abbrev pub status_of : Stop → ℕ
status_of stops.Words = 2
status_of stops.NotOpened = 6
status_of (stops.Start fault) = start_status fault
status_of (stops.Append fault) = append_status fault
status_of (stops.Read fault) = read_status fault
status_of (stops.Output devices.Failed) = 4
status_of (stops.Output devices.NoMemory) = 7
status_of stops.NoMemory = 7
