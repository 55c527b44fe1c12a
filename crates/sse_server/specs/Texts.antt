-- The text printed when a store isn't started.
use Rattle.std.specs.Prelude.{ℕ, List, ◌++◌, codes, decimal}
use Rattle.sse_server.specs.declared.open_fault.OpenFault.{OpenFault}
use Rattle.sse_server.specs.declared.open_fault.OpenFault.TheVariants.{DiskFault, NotAJournal, BadRecord, NoMemory}

abbrev pub open_fault_text : OpenFault → List ℕ
open_fault_text DiskFault = codes "the disk failed"
open_fault_text (NotAJournal place) = codes "not a journal at " ++ decimal place
open_fault_text (BadRecord number) = codes "record " ++ decimal number ++ codes " is no frame that the server takes"
open_fault_text NoMemory = codes "out of memory"
