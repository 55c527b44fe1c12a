-- The text printed when no further line can be read, and for a line that is not in the grammar.
use Rattle.std.specs.Prelude.{ℕ, List, ◌++◌, codes, decimal}
use Rattle.sse_script.specs.declared.read_stop.ReadStop.{ReadStop}
use Rattle.sse_script.specs.declared.read_stop.ReadStop.TheVariants.{Failed, NoMemory}

abbrev pub read_stop_text : ReadStop → List ℕ
read_stop_text Failed = codes "the script can't be read further"
read_stop_text NoMemory = codes "out of memory"

-- of the line with this number
abbrev pub bad_line_text : ℕ → List ℕ
bad_line_text number = codes "line " ++ decimal number ++ codes " is not one of a script"
