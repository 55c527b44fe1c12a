-- How a run ends: its last line and its status.
use Rattle.std.specs.Prelude.{ℕ, Bool, List, [], Option, Some, None, if◌then◌else◌}
use Rattle.std.specs.Option.{option_map_or}
use Rattle.sse_script.specs.Shown.{Cause, Shown, Stopped}
use Rattle.sse_script.specs.Stops.{cause_status}
use Rattle.sse_script.specs.Texts.{text_of}

-- at the end of the script, with a command that was refused or none; at a fault of the sink; or for a cause that is printed
pub data Stop : Type 0 where
  AtEnd : (refused : Bool) → Stop
  SinkFault : Stop
  At : Cause → Stop

-- the last line, which is tried on the sink where the sink isn't what failed
abbrev pub stop_line : Stop → Option Shown
stop_line (AtEnd refused) = None
stop_line SinkFault = None
stop_line (At cause) = Some (Stopped cause)

-- its text; nothing where there is none
abbrev pub stop_text : Stop → List ℕ
stop_text stop = option_map_or text_of (stop_line stop) []

abbrev pub status_of : Stop → ℕ
status_of (AtEnd refused) = if refused then 1 else 0
status_of SinkFault = 4
status_of (At cause) = cause_status cause
