-- The text printed when the tables refuse an entry.
use Rattle.std.specs.Prelude.{ℕ, List, codes}
use Rattle.server_tables.specs.declared.table_fault.TableFault.{TableFault}
use Rattle.server_tables.specs.declared.table_fault.TableFault.TheVariants.{Taken, NoMemory}

abbrev pub table_fault_text : TableFault → List ℕ
table_fault_text Taken = codes "the label or the number is there already"
table_fault_text NoMemory = codes "out of memory"
