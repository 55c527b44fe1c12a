-- A contract's view of the made script as a source.
use Rattle.std.specs.Prelude.{ℕ, List, ◌++◌, drop}
use Rattle.script_made_lines.specs.Lines.{made_lines}
use Rattle.script_made_lines.specs.Script.{text_of_lines}
use Rattle.script_made_lines.specs.declared.source.MadeScript.{MadeScript}

-- what is left: of the line in hand, and the lines behind it
abbrev pub left_of : MadeScript → List ℕ
left_of s = drop s.at s.line.bytes ++ text_of_lines s.seed (drop s.next (made_lines s.documents))
