-- The lines that fit the buffer.
use Rattle.std.specs.Prelude.{ℕ, ◌^◌, ◌<◌, List, map}
use Rattle.std.specs.List.{range_with_len}
use Rattle.script_made_lines.specs.Lines.{words_text}
use Rattle.script_made_lines.specs.Words.{shared_word}
use Rattle.script_made_lines.specs.declared.made_line.MadeLine.{MadeLine}
use Rattle.script_made_lines.specs.declared.made_line.MadeLine.TheVariants.{Key, Doc, SetUp, Delete, Add, Find}

-- the number in a line is small
abbrev pub IsWithin : MadeLine → Type 0
IsWithin Key = Unit {0}
IsWithin (Doc id) = id < 2 ^ 36
IsWithin SetUp = Unit {0}
IsWithin (Delete id) = id < 2 ^ 36
IsWithin (Add id) = id < 2 ^ 36
IsWithin (Find number) = number < 2 ^ 36

-- the first words w of a document, each behind a space
abbrev pub shared_text : (seed i count : ℕ) → List ℕ
shared_text seed i count = words_text (map (shared_word seed i) (range_with_len 0 count))
