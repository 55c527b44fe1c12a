-- The answer of a vault's start to a fault of its journal.
use Rattle.sse_journal.specs.declared.start_fault.StartFault.{StartFault}
use Rattle.sse_journal.specs.declared.start_fault.StartFault.TheVariants as starts
use Rattle.sse_journal.specs.declared.read_fault.ReadFault.{ReadFault}
use Rattle.sse_journal.specs.declared.read_fault.ReadFault.TheVariants as reads
use Rattle.vault_server.specs.declared.vault_open_fault.VaultOpenFault.{VaultOpenFault}
use Rattle.vault_server.specs.declared.vault_open_fault.VaultOpenFault.TheVariants.{DiskFault, NotAJournal, NoMemory}

abbrev pub of_start : StartFault → VaultOpenFault
of_start starts.DiskFault = DiskFault
of_start (starts.NotAJournal place) = NotAJournal place
of_start starts.NoMemory = NoMemory

abbrev pub of_read : ReadFault → VaultOpenFault
of_read reads.DiskFault = DiskFault
of_read (reads.NotAJournal place) = NotAJournal place
of_read reads.NoMemory = NoMemory
