-- The text printed when a vault isn't started.
use Rattle.std.specs.Prelude.{ℕ, List, ◌++◌, codes, decimal}
use Rattle.vault_server.specs.declared.vault_open_fault.VaultOpenFault.{VaultOpenFault}
use Rattle.vault_server.specs.declared.vault_open_fault.VaultOpenFault.TheVariants.{DiskFault, NotAJournal, BadRecord, NoMemory}

abbrev pub open_fault_text : VaultOpenFault → List ℕ
open_fault_text DiskFault = codes "the disk failed"
open_fault_text (NotAJournal place) = codes "not a journal at " ++ decimal place
open_fault_text (BadRecord number) = codes "record " ++ decimal number ++ codes " is no update that the vault takes"
open_fault_text NoMemory = codes "out of memory"
