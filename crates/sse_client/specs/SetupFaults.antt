-- The outcome of a setup that can't be planned.
use Rattle.std.specs.Prelude.{Result, Ok, Err}
use Rattle.index_setup.specs.declared.fault.BuildFault.{BuildFault}
use Rattle.index_setup.specs.declared.fault.BuildFault.TheVariants as builds
use Rattle.sse_script.specs.declared.refusal.Refusal.{Refusal}
use Rattle.sse_script.specs.declared.refusal.Refusal.TheVariants as refusals
use Rattle.script_run_texts.specs.declared.command_stop.CommandStop.{CommandStop}
use Rattle.script_run_texts.specs.declared.command_stop.CommandStop.TheVariants as stops

-- its size refuses its command; equal labels, equal places and want of memory stop the run
abbrev pub setup_answer : BuildFault → Result Refusal CommandStop
setup_answer (builds.BadParameter which value) = Ok (refusals.BadParameter which value)
setup_answer (builds.ListTooLong word n) = Ok (refusals.ListTooLong word n)
setup_answer (builds.TooManyBytes n) = Ok (refusals.TooManyBytes n)
setup_answer (builds.LabelClash first second) = Err (stops.LabelClash first second)
setup_answer (builds.PlaceClash first second) = Err (stops.PlaceClash first second)
setup_answer builds.NoMemory = Err stops.Memory
