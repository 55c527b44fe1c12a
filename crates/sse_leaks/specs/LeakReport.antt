-- The text printed for a script and its leakage: its refusals, the lines of its history's leakage, and the last line of a stop.
use Rattle.std.specs.Prelude.{◌≡◌, ◌⊎◌, ℕ, List, [], ◌++◌, filter, flat_map, map, Option, None, Some}
use Rattle.std.specs.Io.KnownBytes.{append_known}
use Rattle.std.specs.List.{enumerate_from}
use Rattle.client_registry.specs.Run.{History, Epochs}
use Rattle.script_history.specs.Endings.{EndsIn, Seen, StopsTelling, stop_for}
use Rattle.def_script_meaning.specs.Lines.{script_lines}
use Rattle.keyed_fn.specs.KeyFormulas.{mark_of}
use Rattle.keyed_fn.specs.KeyedFn.{KeyedFn}
use Rattle.script_history.specs.Meant.{is_refused_line}
use Rattle.script_history.specs.Reads.{ReadEnd, Whole, ReadsFirst}
use Rattle.script_history.specs.Reads.{Stopped as NotRead}
use Rattle.leakage_texts.specs.LeakTexts.{text_of_leak}
use Rattle.def_script_meaning.specs.Meaning.{Meaning}
use Rattle.def_script_meaning.specs.Outcome.{said}
use Rattle.def_script_meaning.specs.Stops.{Stop, AtEnd, SinkFault, At, status_of}
use Rattle.def_leakage.specs.Histories.{leak_in}
use Rattle.sse_script.specs.Shown.{BadLine}
use Rattle.sse_script.specs.Texts.{text_of}
use Rattle.sse_simulator.specs.Leaks.{Leak}

-- the lines of what commands leak, numbered from 0
abbrev pub leak_lines : List Leak → List ℕ
leak_lines leaks = flat_map (λ e. text_of_leak e.0 e.1) (enumerate_from 0 leaks)

-- of what a history leaks
abbrev pub history_lines : Epochs → List ℕ
history_lines es = leak_lines (leak_in (Some es))

-- how it goes on after a script's reading that ended so: what its history leaks is told, and so is whether a command was refused;
-- a script without a setup lacks a line behind its last one; and what stopped the reading stops all
abbrev pub GoesOn : ReadEnd → (now last : Option (List ℕ)) → Stop → Type 0
GoesOn (Whole key (Some es) refused next) now last stop =
    ((last ≡ append_known now (history_lines es)) × (stop ≡ AtEnd refused)) ⊎ StopsTelling (history_lines es) now last stop
GoesOn (Whole key None refused next) now last stop = (last ≡ now) × (stop ≡ At (BadLine next))
GoesOn (NotRead cause) now last stop = (last ≡ now) × (stop ≡ stop_for cause)

-- a script of these bytes was read, and what its history leaks told, up to the last line of a stop
pub record IsPrintedSo (f : KeyedFn) (bytes : List ℕ) (now last : Option (List ℕ)) (stop : Stop) : Type 0 where
  pub end : ReadEnd
  pub between : Option (List ℕ)
  pub reads : ReadsFirst (Some (mark_of f)) 1 (script_lines bytes) now between end
  pub goes_on : GoesOn end between last stop

-- a script of these bytes was read, what its history leaks was told, and this is the status
pub record HasPrintedLeaks (f : KeyedFn) (bytes : List ℕ) (now last : Seen) (status : ℕ) : Type 0 where
  pub before : Option (List ℕ)
  pub stop : Stop
  pub told : IsPrintedSo f bytes now.written before stop
  pub ends : EndsIn stop before now last
  pub status_is : status ≡ status_of stop

-- Where no device failed and memory wasn't wanting.

-- of a history all lines, where its script is read to the end
abbrev pub lines_at : Stop → History → List ℕ
lines_at (AtEnd refused) (Some es) = history_lines es
lines_at (AtEnd refused) None = []
lines_at SinkFault h = []
lines_at (At cause) h = []

-- a script without a setup lacks the line of this number
abbrev pub stop_at : History → (next : ℕ) → Stop → Stop
stop_at (Some es) next stop = stop
stop_at None next (AtEnd refused) = At (BadLine next)
stop_at None next SinkFault = SinkFault
stop_at None next (At cause) = At cause

-- what was told is what a script of this meaning means, which ends before a line of this number: the refusals among its lines, and
-- then what its history leaks
pub record IsPrintedAs (m : Meaning) (next : ℕ) (now last : Option (List ℕ)) (stop : Stop) : Type 0 where
  pub stop_is : stop ≡ stop_at m.history next m.end
  pub printed : last ≡ append_known now (flat_map text_of (filter is_refused_line (map said m.shown)) ++ lines_at m.end m.history)
