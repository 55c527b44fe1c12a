-- The end of a reading of scripts: the printed text, the last line, and the status.
use Rattle.std.specs.Prelude.{◌≡◌, ◌≢◌, ◌⊎◌, ℕ, Bool, List, Option, None, Some, Result, Ok, Err}
use Rattle.std.specs.Io.KnownBytes.{append_known}
use Rattle.script_run_texts.specs.Stops.{stop_cause}
use Rattle.script_run_texts.specs.declared.stop_cause.StopCause.{StopCause}
use Rattle.def_script_meaning.specs.Stops.{Stop, AtEnd, SinkFault, At, stop_text}
use Rattle.sse_outside.specs.Causes.{Rose}
use Rattle.sse_outside.specs.Fronts.{TookFront}
use Rattle.sse_script.specs.Shown.{Cause, NoMemory}

-- the stop for a cause, and for none where the sink is what failed
abbrev pub stop_for : Option Cause → Stop
stop_for None = SinkFault
stop_for (Some cause) = At cause

-- how it ended: with something refused or nothing, or with a stop
abbrev pub ending : Result Bool StopCause → Stop
ending (Ok refused) = AtEnd refused
ending (Err stop) = stop_for (stop_cause stop)

-- these lines were not all printed, for the sink or for want of memory: a proper front of them was
pub record StopsTelling (lines : List ℕ) (now last : Option (List ℕ)) (stop : Stop) : Type 0 where
  pub printed : TookFront now last lines
  pub stops : (stop ≡ SinkFault) ⊎ (stop ≡ At NoMemory)

-- what is seen of a sink: what was written, and its counts of faults and of shortages
pub record Seen : Type 0 where
  pub written : Option (List ℕ)
  pub faults : ℕ
  pub shortages : ℕ

abbrev pub seen_of : Option (List ℕ) → (faults shortages : ℕ) → Seen
seen_of written faults shortages = record { written = written; faults = faults; shortages = shortages }

-- the last line follows what was printed: whole, where the count of faults stayed unless the sink is what failed; or a proper front
-- of it, as the count of faults or that of shortages rose
abbrev pub EndsIn : Stop → (before : Option (List ℕ)) (now last : Seen) → Type 0
EndsIn stop before now last =
    ((last.written ≡ append_known before (stop_text stop)) × (stop ≢ SinkFault → last.faults ≡ now.faults))
    ⊎ (TookFront before last.written (stop_text stop) × (Rose now.faults last.faults ⊎ Rose now.shortages last.shortages))
