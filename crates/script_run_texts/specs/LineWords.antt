-- How many words of a document a line has.
use Rattle.std.specs.Prelude.{ℕ, length}
use Rattle.sse_script.specs.Lines.{Line, Empty, Key, Doc, SetupLine, AddLine, Del, Find, Query, Rebuild}

-- the words after the identifier, in a line that has one with words
abbrev pub words_in : Line → ℕ
words_in Empty = 0
words_in (Key key) = 0
words_in (Doc id words) = length words
words_in (SetupLine b big pad) = 0
words_in (AddLine id words) = length words
words_in (Del id) = 0
words_in (Find word) = 0
words_in (Query fields) = 0
words_in (Rebuild key) = 0
