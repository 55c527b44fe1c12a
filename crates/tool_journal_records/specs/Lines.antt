-- The line that the program prints if its request was not done.
use Rattle.std.specs.Prelude.{ℕ, List, ◌++◌, codes}
use Rattle.sse_journal.specs.Texts.{append_fault_text, read_fault_text, start_fault_text}
use Rattle.sse_outside.specs.Texts.{device_fault_text}
use Rattle.tool_journal_records.specs.declared.stop.Stop.{Stop}
use Rattle.tool_journal_records.specs.declared.stop.Stop.TheVariants as stops

-- the cause
abbrev pub stop_text : Stop → List ℕ
stop_text stops.Words = codes "usage: tool_journal_records FILE [count | append COUNT SIZE]"
stop_text stops.NotOpened = codes "the file can't be opened"
stop_text (stops.Start fault) = start_fault_text fault
stop_text (stops.Append fault) = append_fault_text fault
stop_text (stops.Read fault) = read_fault_text fault
stop_text (stops.Output fault) = device_fault_text fault
stop_text stops.NoMemory = codes "out of memory"

-- and the end of the line
abbrev pub stop_line : Stop → List ℕ
stop_line stop = stop_text stop ++ codes "\n"
