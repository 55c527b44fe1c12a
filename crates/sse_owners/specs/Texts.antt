-- The text printed when the servers of many owners aren't started.
use Rattle.std.specs.Prelude.{ℕ, List, ◌++◌, codes, decimal}
use Rattle.sse_server.specs.Texts.{open_fault_text}
use Rattle.sse_owners.specs.declared.owners_fault.OwnersFault.{OwnersFault}
use Rattle.sse_owners.specs.declared.owners_fault.OwnersFault.TheVariants.{NotRising, Open}

abbrev pub owners_fault_text : OwnersFault → List ℕ
owners_fault_text (NotRising place) = codes "owner " ++ decimal place ++ codes " is not above the one before"
owners_fault_text (Open fault) = open_fault_text fault
