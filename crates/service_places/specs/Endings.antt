-- The end of a server's program: its status, and what it printed.
use Rattle.std.specs.Prelude.{◌≡◌, ℕ, List, Option, Result, Ok, Err}
use Rattle.sse_outside.specs.Fronts.{TookOrRose}
use Rattle.service_places.specs.Stops.{serving_line, stop_line, stop_status}
use Rattle.service_places.specs.declared.stop.ServiceStop.{ServiceStop}
use Rattle.service_places.specs.declared.stop.Stop.{Stop}
use Rattle.service_places.specs.declared.stop.Stop.TheVariants.{Service}

-- what a sink shows, before and after
pub record Printed : Type 0 where
  pub written : Option (List ℕ)
  pub written2 : Option (List ℕ)
  pub faults : ℕ
  pub faults2 : ℕ
  pub shortages : ℕ
  pub shortages2 : ℕ

-- the sink took these bytes, or a strict prefix of them if it failed or was out of memory
abbrev pub Took : List ℕ → Printed → Type 0
Took bytes p = TookOrRose p.written p.written2 bytes p.faults p.faults2 p.shortages p.shortages2

-- the program ended with this cause: its status and its line
pub record EndsFor (stop : Stop) (p : Printed) (status : ℕ) : Type 0 where
  pub status_is : status ≡ stop_status stop
  pub printed : Took (stop_line stop) p

-- a service ended: with 0 and nothing more if it served to the end, else with the cause's status and line
abbrev pub EndsSo : Result Unit ServiceStop → Printed → ℕ → Type 0
EndsSo (Ok _) p status = (status ≡ 0) × (p.written2 ≡ p.written) × (p.faults2 ≡ p.faults) × (p.shortages2 ≡ p.shortages)
EndsSo (Err stop) p status = EndsFor (Service stop) p status

-- the line that connections can come was printed, what was served is Served, and the service's end gave status and last line
pub record HasService {D C : Type 0} (Served : Result Unit ServiceStop → D → C → D → C → Type 0) (p : Printed) (status : ℕ) (disk : D) (conns : C) (disk2 : D) (conns2 : C) : Type 0 where
  pub end : Result Unit ServiceStop
  pub between : Option (List ℕ)
  pub faults_between : ℕ
  pub shortages_between : ℕ
  pub began : TookOrRose p.written between serving_line p.faults faults_between p.shortages shortages_between
  pub served : Served end disk conns disk2 conns2
  pub ended_so : EndsSo end (record p { written = between; faults = faults_between; shortages = shortages_between }) status
