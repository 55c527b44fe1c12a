-- The text printed when a command of the script isn't carried out.
use Rattle.std.specs.Prelude.{ℕ, List, ◌++◌, codes}
use Rattle.std.specs.List.{concat}
use Rattle.sse_script.specs.Texts.{refusal_text}
use Rattle.script_documents.specs.declared.line_fault.LineFault.{LineFault}
use Rattle.script_documents.specs.declared.line_fault.LineFault.TheVariants.{Refused, NoMemory}

abbrev pub line_fault_text : LineFault → List ℕ
line_fault_text (Refused refusal) = codes "refused: " ++ concat (refusal_text refusal)
line_fault_text NoMemory = codes "out of memory"
