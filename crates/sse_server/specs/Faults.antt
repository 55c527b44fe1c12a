-- The answer of a store's start to a fault of its journal, and the disk fault that refused an append.
use Rattle.sse_journal.specs.declared.start_fault.StartFault.{StartFault}
use Rattle.sse_journal.specs.declared.start_fault.StartFault.TheVariants as starts
use Rattle.sse_journal.specs.declared.read_fault.ReadFault.{ReadFault}
use Rattle.sse_journal.specs.declared.read_fault.ReadFault.TheVariants as reads
use Rattle.sse_server.specs.declared.open_fault.OpenFault.{OpenFault}
use Rattle.sse_server.specs.declared.open_fault.OpenFault.TheVariants.{DiskFault, NotAJournal, NoMemory}

abbrev pub of_start : StartFault → OpenFault
of_start starts.DiskFault = DiskFault
of_start (starts.NotAJournal place) = NotAJournal place
of_start starts.NoMemory = NoMemory

abbrev pub of_read : ReadFault → OpenFault
of_read reads.DiskFault = DiskFault
of_read (reads.NotAJournal place) = NotAJournal place
of_read reads.NoMemory = NoMemory
