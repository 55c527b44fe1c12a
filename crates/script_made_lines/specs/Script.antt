-- The text of the made script.
use Rattle.std.specs.Prelude.{ℕ, List, [], ◌∷◌, ◌++◌, flat_map}
use Rattle.script_made_lines.specs.Lines.{made_lines, line_text}
use Rattle.script_made_lines.specs.declared.made_line.MadeLine.{MadeLine}

-- a line and its end, byte 0a
abbrev pub ended_line : ℕ → MadeLine → List ℕ
ended_line seed line = line_text seed line ++ 10 ∷ []

-- the text of some of its lines
abbrev pub text_of_lines : ℕ → List MadeLine → List ℕ
text_of_lines seed lines = flat_map (ended_line seed) lines

-- the script that `gen SEED N` runs
abbrev pub made_text : (seed n : ℕ) → List ℕ
made_text seed n = text_of_lines seed (made_lines n)
