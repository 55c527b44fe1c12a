-- The lines of the made script, read by the grammar of a script's lines.
use Rattle.std.specs.Prelude.{ℕ}
use Rattle.sse_script.specs.Lines as lines
use Rattle.script_made_lines.specs.Lines.{made_key}
use Rattle.script_made_lines.specs.Words.{made_words, searched_word}
use Rattle.script_made_lines.specs.declared.made_line.MadeLine.{MadeLine}
use Rattle.script_made_lines.specs.declared.made_line.MadeLine.TheVariants.{Key, Doc, SetUp, Delete, Add, Find}

abbrev pub said_by : ℕ → MadeLine → lines.Line
said_by seed Key = lines.Key (made_key seed)
said_by seed (Doc id) = lines.Doc id (made_words seed id)
said_by seed SetUp = lines.SetupLine 16 64 1
said_by seed (Delete id) = lines.Del id
said_by seed (Add id) = lines.AddLine id (made_words seed id)
said_by seed (Find number) = lines.Find (searched_word seed number)
