-- The outcome of an update that can't be planned.
use Rattle.std.specs.Prelude.{Option, None, Some, Result, Ok, Err}
use Rattle.client_core.specs.declared.command_fault.CommandFault.{CommandFault}
use Rattle.client_core.specs.declared.command_fault.CommandFault.TheVariants as commands
use Rattle.sse_script.specs.declared.refusal.Refusal.{Refusal}
use Rattle.sse_script.specs.declared.refusal.Refusal.TheVariants.{AlreadyLive, UnknownDocument, CounterFull, HistoryFull}
use Rattle.script_documents.specs.declared.line_fault.LineFault.{LineFault}
use Rattle.script_documents.specs.declared.line_fault.LineFault.TheVariants as lines
use Rattle.script_run_texts.specs.declared.command_stop.CommandStop.{CommandStop}
use Rattle.script_run_texts.specs.declared.command_stop.CommandStop.TheVariants as stops
use Rattle.sse_client.specs.declared.update_answer.UpdateAnswer.{UpdateAnswer}
use Rattle.sse_client.specs.declared.update_answer.UpdateAnswer.TheVariants.{Refused}

-- a document that can't be made refuses its command; want of memory stops the run
abbrev pub answer_to_line : LineFault → Result UpdateAnswer CommandStop
answer_to_line (lines.Refused refusal) = Ok (Refused refusal)
answer_to_line lines.NoMemory = Err stops.Memory

-- a command that isn't accepted is refused; equal values and want of memory stop the run
abbrev pub answer_to_command : CommandFault → Result UpdateAnswer CommandStop
answer_to_command (commands.AlreadyLive id) = Ok (Refused (AlreadyLive id))
answer_to_command (commands.UnknownDocument id) = Ok (Refused (UnknownDocument id))
answer_to_command (commands.CounterFull position) = Ok (Refused (CounterFull position))
answer_to_command commands.HistoryFull = Ok (Refused HistoryFull)
answer_to_command (commands.LabelClash first second) = Err (stops.LabelClash first second)
answer_to_command (commands.NumberClash first second) = Err (stops.NumberClash first second)
answer_to_command commands.NoMemory = Err stops.Memory

-- the refusal that an answer is; none where there is a plan, or where the run stops
abbrev pub refusal_in : Result UpdateAnswer CommandStop → Option Refusal
refusal_in (Ok (Refused refusal)) = Some refusal
refusal_in _ = None
