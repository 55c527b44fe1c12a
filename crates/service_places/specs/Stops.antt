-- Why a service ends early: its status and its last line (docs/FORMATS.md).
use Rattle.std.specs.Prelude.{ℕ, List, ◌∷◌, [], ◌++◌, codes}
use Rattle.tcp_service.specs.declared.serve_fault.ServeFault.{ServeFault}
use Rattle.tcp_service.specs.declared.serve_fault.ServeFault.TheVariants as serves
use Rattle.service_places.specs.declared.stop.ServiceStop.{ServiceStop}
use Rattle.service_places.specs.declared.stop.ServiceStop.TheVariants.{Link, Disk, Memory, NoJournal, NoRandomness}
use Rattle.service_places.specs.declared.stop.Stop.{Stop}
use Rattle.service_places.specs.declared.stop.Stop.TheVariants.{Words, Service}

-- the exit status
abbrev pub status_of_service : ServiceStop → ℕ
status_of_service Link = 5
status_of_service Disk = 6
status_of_service Memory = 7
status_of_service NoJournal = 10
status_of_service NoRandomness = 11

abbrev pub stop_status : Stop → ℕ
stop_status Words = 2
stop_status (Service stop) = status_of_service stop

-- the last line of this text, with its end
abbrev pub line_with : List ℕ → List ℕ
line_with text = codes "stopped: " ++ text ++ 10 ∷ []

-- the last line, which names the cause
abbrev pub line_of_service : ServiceStop → List ℕ
line_of_service Link = line_with (codes "link")
line_of_service Disk = line_with (codes "disk")
line_of_service Memory = line_with (codes "memory")
line_of_service NoJournal = line_with (codes "no journal")
line_of_service NoRandomness = line_with (codes "no randomness")

abbrev pub stop_line : Stop → List ℕ
stop_line Words = line_with (codes "words")
stop_line (Service stop) = line_of_service stop

-- what is printed once connections can come
abbrev pub serving_line : List ℕ
serving_line = codes "serving" ++ 10 ∷ []

-- why it ends while it serves
abbrev pub stop_of_serve : ServeFault → ServiceStop
stop_of_serve serves.NoConnection = Link
stop_of_serve serves.StoreFault = Disk
