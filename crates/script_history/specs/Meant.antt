-- The result of a reading if no device failed and memory sufficed: the script's meaning.
use Rattle.std.specs.Prelude.{◌≡◌, ◌≢◌, ℕ, List, flat_map, map, Option, None, Some, Bool, true, false, filter}
use Rattle.std.specs.Io.KnownBytes.{append_known}
use Rattle.client_registry.specs.Run.{History}
use Rattle.def_script_meaning.specs.Meaning.{Meaning}
use Rattle.def_script_meaning.specs.Outcome.{said}
use Rattle.def_script_meaning.specs.Stops as ends
use Rattle.def_script_meaning.specs.Stops.{Stop}
use Rattle.sse_script.specs.Shown.{SourceFault, NoMemory, Shown, SetUp, Rebuilt, Added, Deleted, Found, Matched, Resumed, Refused, Stopped as StoppedLine}
use Rattle.sse_script.specs.Texts.{text_of}
use Rattle.script_history.specs.Reads.{ReadEnd, Whole, Stopped}

-- the lines that say that a command is refused
abbrev pub is_refused_line : Shown → Bool
is_refused_line (SetUp words blocks) = false
is_refused_line (Rebuilt words blocks) = false
is_refused_line (Added id) = false
is_refused_line (Deleted id) = false
is_refused_line (Found ids) = false
is_refused_line (Matched ids) = false
is_refused_line (Resumed frames) = false
is_refused_line (Refused refusal) = true
is_refused_line (StoppedLine cause) = false

-- no device failed, and memory wasn't wanting
pub record IsCalm (end : ReadEnd) : Type 0 where
  pub sink : end ≢ Stopped None
  pub source : end ≢ Stopped (Some SourceFault)
  pub memory : end ≢ Stopped (Some NoMemory)

-- the script's end, by its key, its history and the number behind its last line: its lines are all read, or its first bad line is
-- told
abbrev pub end_of : Option (List ℕ) → History → (next : ℕ) → Stop → ReadEnd
end_of (Some key) history next (ends.AtEnd refused) = Whole key history refused next
end_of None history next (ends.AtEnd refused) = Stopped None
end_of key history next ends.SinkFault = Stopped None
end_of key history next (ends.At cause) = Stopped (Some cause)

-- a reading did what a script of this meaning means, which ends before a line of this number: its history is made, and of its
-- lines the refusals are printed, in their order
pub record IsReadAs (m : Meaning) (next : ℕ) (now last : Option (List ℕ)) (end : ReadEnd) : Type 0 where
  pub ends : end ≡ end_of m.key m.history next m.end
  pub printed : last ≡ append_known now (flat_map text_of (filter is_refused_line (map said m.shown)))
