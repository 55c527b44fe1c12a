-- Why a service ends if its store wasn't started (docs/FORMATS.md).
use Rattle.sse_server.specs.declared.open_fault.OpenFault.{OpenFault}
use Rattle.sse_server.specs.declared.open_fault.OpenFault.TheVariants as opens
use Rattle.service_places.specs.declared.stop.ServiceStop.{ServiceStop}
use Rattle.service_places.specs.declared.stop.ServiceStop.TheVariants.{Disk, Memory, NoJournal}

abbrev pub stop_of_open : OpenFault → ServiceStop
stop_of_open opens.DiskFault = Disk
stop_of_open (opens.NotAJournal place) = NoJournal
stop_of_open (opens.BadRecord number) = NoJournal
stop_of_open opens.NoMemory = Memory
