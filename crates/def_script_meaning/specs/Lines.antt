-- The lines of a script: empty ones, the key line, and commands.
use Rattle.std.specs.Prelude.{ℕ, List, Option, map, option_map}
use Rattle.sse_script.specs.Lines as read
use Rattle.sse_script.specs.Lines.{line_of}
use Rattle.sse_script.specs.TextLines.{lines_of}

-- what a line asks for
pub data Request : Type 0 where
  Doc : (id : ℕ) (words : List (List ℕ)) → Request
  SetupLine : (b big pad : ℕ) → Request
  AddLine : (id : ℕ) (words : List (List ℕ)) → Request
  Del : (id : ℕ) → Request
  Find : (word : List ℕ) → Request
  Query : (fields : List (List ℕ)) → Request
  RebuildLine : (key : List ℕ) → Request

pub data Line : Type 0 where
  Empty : Line
  Key : (key : List ℕ) → Line
  Command : Request → Line

abbrev pub line_read : read.Line → Line
line_read read.Empty = Empty
line_read (read.Key key) = Key key
line_read (read.Doc id words) = Command (Doc id words)
line_read (read.SetupLine b big pad) = Command (SetupLine b big pad)
line_read (read.AddLine id words) = Command (AddLine id words)
line_read (read.Del id) = Command (Del id)
line_read (read.Find word) = Command (Find word)
line_read (read.Query fields) = Command (Query fields)
line_read (read.Rebuild key) = Command (RebuildLine key)

-- the line that these bytes are; None where they aren't in the grammar
abbrev pub line_in : List ℕ → Option Line
line_in bytes = option_map line_read (line_of bytes)

-- the lines that are these texts
abbrev pub lines_in : List (List ℕ) → List (Option Line)
lines_in texts = map line_in texts

-- the lines of a script's bytes
abbrev pub script_lines : List ℕ → List (Option Line)
script_lines bytes = lines_in (lines_of bytes)
