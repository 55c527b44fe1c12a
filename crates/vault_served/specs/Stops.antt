-- Why a service ends if its vault wasn't started (docs/FORMATS.md).
use Rattle.vault_server.specs.declared.vault_open_fault.VaultOpenFault.{VaultOpenFault}
use Rattle.vault_server.specs.declared.vault_open_fault.VaultOpenFault.TheVariants as opens
use Rattle.service_places.specs.declared.stop.ServiceStop.{ServiceStop}
use Rattle.service_places.specs.declared.stop.ServiceStop.TheVariants.{Disk, Memory, NoJournal}

abbrev pub stop_of_open : VaultOpenFault → ServiceStop
stop_of_open opens.DiskFault = Disk
stop_of_open (opens.NotAJournal place) = NoJournal
stop_of_open (opens.BadRecord number) = NoJournal
stop_of_open opens.NoMemory = Memory
