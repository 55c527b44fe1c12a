-- The last line of a run, which says why it stopped.
use Rattle.std.specs.Prelude.{◌≡◌, ◌≢◌, ◌⊎◌, ℕ, List, Option}
use Rattle.std.specs.Io.KnownBytes.{append_known}
use Rattle.sse_outside.specs.Causes.{Rose}
use Rattle.sse_outside.specs.Fronts.{TookFront}
use Rattle.def_script_meaning.specs.Stops.{Stop, stop_text}

-- how it was printed, behind what the sink had taken: whole, and the count of faults is that of the run's start but where the status tells
-- a fault of the sink; or a proper front of it, and the count of faults or that of shortages rose
abbrev pub EndsLine : Stop → (written written' : Option (List ℕ)) → (status faults faults_now shortages shortages_now : ℕ) → Type 0
EndsLine stop written written' status faults faults_now shortages shortages_now =
    ((written' ≡ append_known written (stop_text stop)) × (status ≢ 4 → faults_now ≡ faults))
    ⊎ (TookFront written written' (stop_text stop) × (Rose faults faults_now ⊎ Rose shortages shortages_now))
