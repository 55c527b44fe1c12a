-- The stop of a run whose client can't resume from its records.
use Rattle.client_core.specs.declared.resume_fault.ResumeFault.{ResumeFault}
use Rattle.client_core.specs.declared.resume_fault.ResumeFault.TheVariants as faults
use Rattle.script_run_texts.specs.declared.command_stop.CommandStop.{CommandStop}
use Rattle.script_run_texts.specs.declared.command_stop.CommandStop.TheVariants as commands
use Rattle.script_run_texts.specs.declared.peer_stop.PeerStop.TheVariants.{Elsewhere}

-- a server that is elsewhere; or why the last command isn't planned again
abbrev pub stop_of_resume : ResumeFault → CommandStop
stop_of_resume (faults.PeerElsewhere low high got) = commands.Exchange (Elsewhere low high got)
stop_of_resume (faults.LabelClash first second) = commands.LabelClash first second
stop_of_resume (faults.PlaceClash first second) = commands.PlaceClash first second
stop_of_resume (faults.NumberClash first second) = commands.NumberClash first second
stop_of_resume faults.NoMemory = commands.Memory
