-- The fault of a line: a refusal, or out of memory.
use Rattle.std.specs.Prelude.{◌≡◌, Option, None, Some}
use Rattle.sse_script.specs.declared.refusal.Refusal.{Refusal}
use Rattle.script_documents.specs.declared.line_fault.LineFault.{LineFault}
use Rattle.script_documents.specs.declared.line_fault.LineFault.TheVariants.{Refused, NoMemory}

-- the refusal that a fault is; none where there was no memory
abbrev pub fault_refusal : LineFault → Option Refusal
fault_refusal (Refused refusal) = Some refusal
fault_refusal NoMemory = None

-- a fault is the refusal that there is, unless there was no memory
abbrev pub SaysRefusal : LineFault → Option Refusal → Type 0
SaysRefusal (Refused refusal) first = Some refusal ≡ first
SaysRefusal NoMemory first = Unit {0}
