-- The text printed for each fault of a journal.
use Rattle.std.specs.Prelude.{ℕ, List, ◌++◌, codes, decimal}
use Rattle.sse_journal.specs.declared.append_fault.AppendFault.{AppendFault}
use Rattle.sse_journal.specs.declared.append_fault.AppendFault.TheVariants as appends
use Rattle.sse_journal.specs.declared.start_fault.StartFault.{StartFault}
use Rattle.sse_journal.specs.declared.start_fault.StartFault.TheVariants as starts
use Rattle.sse_journal.specs.declared.read_fault.ReadFault.{ReadFault}
use Rattle.sse_journal.specs.declared.read_fault.ReadFault.TheVariants as reads

abbrev pub append_fault_text : AppendFault → List ℕ
append_fault_text appends.DiskFault = codes "the disk failed"
append_fault_text appends.NoMemory = codes "out of memory"
append_fault_text appends.Broken = codes "an earlier append was refused"

abbrev pub start_fault_text : StartFault → List ℕ
start_fault_text starts.DiskFault = codes "the disk failed"
start_fault_text (starts.NotAJournal place) = codes "not a journal at " ++ decimal place
start_fault_text starts.NoMemory = codes "out of memory"

abbrev pub read_fault_text : ReadFault → List ℕ
read_fault_text reads.DiskFault = codes "the disk failed"
read_fault_text (reads.NotAJournal place) = codes "not a journal at " ++ decimal place
read_fault_text reads.NoMemory = codes "out of memory"
