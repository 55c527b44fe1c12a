-- One turn of the loop that reads a script's lines, and the place of the reading after it.
use Rattle.std.specs.Prelude.{◌≡◌, ◌⊎◌, ℕ, ◌+◌, ◌<◌, Bool, true, false, ◌||◌, List, Option, None, Some, Result, Ok, Err, option_map}
use Rattle.std.specs.Io.KnownBytes.{append_known}
use Rattle.client_registry.specs.Run.{History}
use Rattle.keyed_fn.specs.KeyedFn.{KeyedFn}
use Rattle.leakage_history.specs.HashedEpochs.{HashedEpochs, epochs_in}
use Rattle.script_run_texts.specs.Causes.{SourceCause}
use Rattle.script_run_texts.specs.Stops.{stop_cause}
use Rattle.script_run_texts.specs.declared.stop_cause.StopCause.{StopCause}
use Rattle.def_script_meaning.specs.Lines.{Request}
use Rattle.def_script_meaning.specs.Outcome.{Place, after, is_refusal}
use Rattle.script_history.specs.Reads.{ReadEnd, Whole, Stopped, StopsUnread, StopsPrinting, ReadsFrom, read_outcome, refusal_in, refused_text}
use Rattle.script_history.specs.Stages.{Stands}
use Rattle.script_history.specs.TwoScripts.{EndsPart, behind_left}
use Rattle.script_history.specs.declared.lines.Last.{Last}
use Rattle.script_history.specs.declared.lines.Progress.{Progress}
use Rattle.script_history.specs.declared.lines.Turn.{Turn}
use Rattle.script_history.specs.declared.lines.Turn.TheVariants.{Next, End}
use Rattle.script_history.specs.declared.script_reader.FirstScript.{FirstScript}
use Rattle.script_history.specs.declared.script_reader.ReadScript.{ReadScript}
use Rattle.script_history.specs.declared.stage.Stage.{Stage}
use Rattle.script_history.specs.declared.stage.Stage.TheVariants.{Collecting, Built}

-- a moment of a reading: where it stands in its script, the number of the next line, the texts of those that are left, whether a
-- command was refused, and what was printed
pub record Moment : Type 0 where
  pub place : Place
  pub number : ℕ
  pub left : Option (List (List ℕ))
  pub refused : Bool
  pub printed : Option (List ℕ)

abbrev pub moment : Place → ℕ → Option (List (List ℕ)) → Bool → Option (List ℕ) → Moment
moment place number left refused printed = record { place = place; number = number; left = left; refused = refused; printed = printed }

-- a reading from this moment ends so when that was printed
abbrev pub ReadsOn : Moment → (last : Option (List ℕ)) → ReadEnd → Type 0
ReadsOn now last end = ReadsFrom now.place now.number now.left now.refused now.printed last end

-- where a reading stands after some lines: whatever is read from there is read from the moment at which they began
pub record IsThere (f : KeyedFn) (start : Moment) (next : Progress) (number : ℕ) (left : Option (List (List ℕ))) (printed : Option (List ℕ)) : Type 0 where
  pub place : Place
  pub at : Stands f next.standing place
  pub key : place.key ≡ start.place.key
  pub rest : (last : Option (List ℕ)) (end : ReadEnd) → ReadsOn (moment place (number + 1) left next.refused printed) last end → ReadsOn start last end

-- the history of a stage: none before the setup
abbrev pub hashed_at : Stage → Option HashedEpochs
hashed_at (Collecting docs) = None
hashed_at (Built history) = Some history

-- the same without the numbers under which it hashes
abbrev pub history_at : Stage → History
history_at stage = option_map epochs_in (hashed_at stage)

-- how the reading of these lines ended, under this key, where one more line would have this number
abbrev pub end_at : (key : List ℕ) (next : ℕ) → Result Last StopCause → ReadEnd
end_at key next (Ok last) = Whole key (history_at last.progress.standing.stage) last.progress.refused next
end_at key next (Err stop) = Stopped (stop_cause stop)

-- a command at a place comes to this: the reading stands after it, with its refusal printed; or it stops, with nothing printed or
-- a proper front of the refusal
abbrev pub ComesThrough : KeyedFn → Place → Request → (refused : Bool) (now last : Option (List ℕ)) → Result Progress StopCause → Type 0
ComesThrough f place request refused now last (Ok next) =
    let result = read_outcome place request in
    Stands f next.standing (after result place) × (next.refused ≡ refused || is_refusal result) × (last ≡ append_known now (refused_text (refusal_in result)))
ComesThrough f place request refused now last (Err stop) =
    StopsUnread now last (Stopped (stop_cause stop)) ⊎ StopsPrinting (refused_text (refusal_in (read_outcome place request))) now last (Stopped (stop_cause stop))

-- a stop that isn't for the source, whose count stayed
abbrev pub IsElsewhere : StopCause → Type 0
IsElsewhere stop = (faults : ℕ) → SourceCause faults faults stop

-- a line that is read leads from this moment to where the reading stands after it, or to the end of the reading
abbrev pub LeadsOn : KeyedFn → Moment → (number : ℕ) (left : Option (List (List ℕ))) (printed : Option (List ℕ)) → Result Progress StopCause → Type 0
LeadsOn f start number left printed (Ok next) = IsThere f start next number left printed
LeadsOn f start number left printed (Err stop) = ReadsOn start printed (Stopped (stop_cause stop))

-- so does a turn, which may also find no line of the script
abbrev pub LeadsTo : KeyedFn → Moment → (number : ℕ) (left : Option (List (List ℕ))) (printed : Option (List ℕ)) → Result Turn StopCause → Type 0
LeadsTo f start number left printed (Ok (Next next)) = IsThere f start next number left printed
LeadsTo f start number left printed (Ok (End last)) = ReadsOn start printed (Whole start.place.key (history_at last.progress.standing.stage) last.progress.refused number)
LeadsTo f start number left printed (Err stop) = ReadsOn start printed (Stopped (stop_cause stop))

-- what holds where a turn read a line, be it the one between two scripts
abbrev pub OnLine : Turn → Type 0 → Type 0
OnLine (Next next) P = P
OnLine (End last) P = last.at_twin ≡ true → P

-- a line was read: the next number is one more, and fewer bytes are to come
pub record HasAdvanced (number to_come next left : ℕ) : Type 0 where
  pub counted : next ≡ number + 1
  pub less : left < to_come

-- the stage after a turn
abbrev pub stage_after : Turn → Stage
stage_after (Next next) = next.standing.stage
stage_after (End last) = last.progress.standing.stage

-- whether the line that was read is the one between two scripts, at which a turn ends
abbrev pub IsTurnAt : (is_twin : Bool) → Turn → Type 0
IsTurnAt is_twin (Next next) = is_twin ≡ false
IsTurnAt is_twin (End last) = (is_twin ≡ true) × (last.at_twin ≡ true)

-- what is left of both scripts after a turn
abbrev pub PartsOn : Turn → (old new : Option (List (List ℕ))) (remaining : Option (List ℕ)) → Type 0
PartsOn (Next next) old new remaining = behind_left old ≡ behind_left new
PartsOn (End last) old new remaining = EndsPart last.at_twin old new remaining (Unit {0})

-- how the reading of a script ended
abbrev pub reading_end : Result ReadScript StopCause → ReadEnd
reading_end (Ok read) = Whole read.key (option_map epochs_in read.history) read.refused read.next
reading_end (Err stop) = Stopped (stop_cause stop)

-- and how that of the first of two did
abbrev pub first_end : Result FirstScript StopCause → ReadEnd
first_end (Ok first) = Whole first.script.key (option_map epochs_in first.script.history) first.script.refused first.script.next
first_end (Err stop) = Stopped (stop_cause stop)
