-- The meaning of a script: the history that it makes, the lines that it prints, and how it ends.
use Rattle.std.specs.Prelude.{ℕ, ◌+◌, Bool, false, ◌||◌, List, [], ◌∷◌, ◌++◌, Option, None, Some}
use Rattle.client_registry.specs.Histories.{empty}
use Rattle.client_registry.specs.Run.{History}
use Rattle.sse_script.specs.Shown.{BadLine}
use Rattle.def_script_meaning.specs.Lines.{Line, Empty, Key, Command, script_lines}
use Rattle.def_script_meaning.specs.Outcome.{Place, Printed, opened, outcome, after, shown_by, is_refusal}
use Rattle.def_script_meaning.specs.Stops.{Stop, AtEnd, At}

pub record Meaning : Type 0 where
  -- the key of the script's key line, where it has one
  pub key : Option (List ℕ)
  pub history : History
  pub shown : List Printed
  -- at the end of the script, or at its first bad line
  pub end : Stop

-- a script that is at its end, or at a bad line, with this key and history
abbrev pub ends_at : Option (List ℕ) → History → Stop → Meaning
ends_at key history end = record { key = key; history = history; shown = []; end = end }

-- the same with these lines printed before
abbrev pub showing : List Printed → Meaning → Meaning
showing shown m = record m { shown = shown ++ m.shown }

-- the meaning of lines from a place on, the first of which has this number; whether a command was refused before them.
-- A bad line ends a script, and so does one more key line
abbrev pub follow : Place → (number : ℕ) → List (Option Line) → (refused : Bool) → Meaning
follow place number [] refused = ends_at (Some place.key) place.history (AtEnd refused)
follow place number (None ∷ lines) refused = ends_at (Some place.key) place.history (At (BadLine number))
follow place number (Some Empty ∷ lines) refused = follow place (number + 1) lines refused
follow place number (Some (Key key) ∷ lines) refused = ends_at (Some place.key) place.history (At (BadLine number))
follow place number (Some (Command line) ∷ lines) refused =
    let result = outcome place line in
    showing (shown_by result) (follow (after result place) (number + 1) lines (refused || is_refusal result))

-- the meaning of lines, the first of which has this number: empty ones, then the key line and those after it
abbrev pub meant_from : (mark : Option (List ℕ → List ℕ)) → (number : ℕ) → List (Option Line) → Meaning
meant_from mark number (Some Empty ∷ lines) = meant_from mark (number + 1) lines
meant_from mark number (Some (Key key) ∷ lines) = follow (opened mark key) (number + 1) lines false
meant_from mark number _ = ends_at None empty (At (BadLine number))

-- the meaning of a script's lines, which are numbered from 1
abbrev pub meant : (mark : Option (List ℕ → List ℕ)) → List (Option Line) → Meaning
meant mark lines = meant_from mark 1 lines

-- the meaning of a script's bytes
abbrev pub meaning : (mark : Option (List ℕ → List ℕ)) → List ℕ → Meaning
meaning mark bytes = meant mark (script_lines bytes)
