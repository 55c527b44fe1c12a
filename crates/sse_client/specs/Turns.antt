-- One turn of the loop over the lines, and the place of a session after it.
use Rattle.std.specs.Prelude.{◌≡◌, ℕ, ◌+◌, Bool, List, Option, Result, Ok, Err}
use Rattle.keyed_fn.specs.KeyedFn.{KeyedFn}
use Rattle.script_run_texts.specs.declared.stop_cause.StopCause.{StopCause}
use Rattle.def_script_meaning.specs.Carries.{Outside}
use Rattle.def_script_meaning.specs.Outcome.{Place}
use Rattle.def_script_meaning.specs.Runs.{Ended, Moment, moment, RunsFrom}
use Rattle.def_script_meaning.specs.Stops as ends
use Rattle.sse_script.specs.TextLines.{lines_left}
use Rattle.sse_client.specs.Stands.{IsAt, stop_view, has_refused, EndsFrom}
use Rattle.sse_client.specs.declared.lines.Refusals.{Refusals}
use Rattle.sse_client.specs.declared.lines.Session.{Session}
use Rattle.sse_client.specs.declared.lines.Turn.{Turn}
use Rattle.sse_client.specs.declared.lines.Turn.TheVariants.{Next, End}
use Rattle.sse_client.specs.declared.session.Stage.{Stage}

-- where a session stands after some lines: whatever runs from there runs from the moment at which they began
pub record IsThere (f : KeyedFn) (start : Moment) (stage : Stage) (number : ℕ) (left : Option (List (List ℕ))) (refused : Bool) (now : Outside) : Type 0 where
  pub place : Place
  pub at : IsAt f stage place
  pub key : place.key ≡ start.place.key
  pub rest : (end : Ended) → RunsFrom f (moment place (number + 1) left refused now) end → RunsFrom f start end

-- how a run over the lines ended
abbrev pub ending : Result Refusals StopCause → ends.Stop
ending (Ok refusals) = ends.AtEnd (has_refused refusals)
ending (Err stop) = stop_view stop

-- what a turn leads to from this moment: a session that stands after one line more, or the end of the run. Of the source, what
-- is left of it behind the turn
abbrev pub LeadsTo : KeyedFn → Moment → (remaining : Option (List ℕ)) (now : Outside) → Result Turn StopCause → Type 0
LeadsTo f start remaining now (Ok (Next next)) = IsThere f start next.stage next.input.number (lines_left next.input.pending remaining) (has_refused next.refusals) now
LeadsTo f start remaining now (Ok (End refusals)) = EndsFrom f start now (ends.AtEnd (has_refused refusals))
LeadsTo f start remaining now (Err stop) = EndsFrom f start now (stop_view stop)

-- a turn leads there wherever the session may stand before it
abbrev pub Turns : KeyedFn → Session → (remaining : Option (List ℕ)) (old : Outside) (remaining' : Option (List ℕ)) (new : Outside) → Result Turn StopCause → Type 0
Turns f session remaining old remaining' new result =
    (place : Place) → IsAt f session.stage place
    → LeadsTo f (moment place (session.input.number + 1) (lines_left session.input.pending remaining) (has_refused session.refusals) old) remaining' new result

-- what holds of the session where a turn leads to one more
abbrev pub IfNext : Turn → (Session → Type 0) → Type 0
IfNext (Next next) P = P next
IfNext (End refusals) P = Unit {0}

-- and of a turn that finds no line
abbrev pub OnEnd : Turn → Type 0 → Type 0
OnEnd (Next next) P = Unit {0}
OnEnd (End refusals) P = P
