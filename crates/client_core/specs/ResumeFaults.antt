-- The faults of a command that is planned again, as faults of a client that resumes.
use Rattle.std.specs.Prelude.{Option, None, Some}
use Rattle.client_renewal.specs.declared.renewal_fault.RenewalFault.{RenewalFault}
use Rattle.client_renewal.specs.declared.renewal_fault.RenewalFault.TheVariants as renewals
use Rattle.sse_model.specs.Compared.{Collision, Labels, Numbers, Places}
use Rattle.client_core.specs.declared.command_fault.CommandFault.{CommandFault}
use Rattle.client_core.specs.declared.command_fault.CommandFault.TheVariants as commands
use Rattle.client_core.specs.declared.resume_fault.ResumeFault.{ResumeFault}
use Rattle.client_core.specs.declared.resume_fault.ResumeFault.TheVariants.{LabelClash, NoMemory, NumberClash, PlaceClash}

-- how two equal values are named
abbrev pub collision_fault : Collision → ResumeFault
collision_fault (Labels first second) = LabelClash first second
collision_fault (Places first second) = PlaceClash first second
collision_fault (Numbers first second) = NumberClash first second

-- the fault of a setup's plan; one that was accepted isn't refused
abbrev pub setup_fault : RenewalFault → Option ResumeFault
setup_fault (renewals.LabelClash first second) = Some (LabelClash first second)
setup_fault (renewals.PlaceClash first second) = Some (PlaceClash first second)
setup_fault renewals.NoMemory = Some NoMemory
setup_fault (renewals.KeyUsed epoch) = None
setup_fault (renewals.TooManyDocuments n) = None
setup_fault (renewals.TooManyPairs n) = None
setup_fault (renewals.ListTooLong word n) = None
setup_fault (renewals.TooManyBytes n) = None
setup_fault renewals.HistoryFull = None

-- and of an update's plan; one that was accepted isn't refused
abbrev pub update_fault : CommandFault → Option ResumeFault
update_fault (commands.LabelClash first second) = Some (LabelClash first second)
update_fault (commands.NumberClash first second) = Some (NumberClash first second)
update_fault commands.NoMemory = Some NoMemory
update_fault (commands.AlreadyLive id) = None
update_fault (commands.UnknownDocument id) = None
update_fault (commands.CounterFull position) = None
update_fault commands.HistoryFull = None
