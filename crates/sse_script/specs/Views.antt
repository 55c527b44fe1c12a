-- A line as it is read, seen as what it says.
use Rattle.sse_script.specs.Lines.{Line, Empty as EmptyLine, Key as KeyLine, Doc as DocLine, SetupLine, AddLine, Del as DelLine, Find as FindLine, Query as QueryLine, Rebuild as RebuildLine}
use Rattle.sse_script.specs.declared.line.Line.{Line as ReadLine}
use Rattle.sse_script.specs.declared.line.Line.TheVariants.{Empty, Key, Doc, Setup, Add, Del, Find, Query, Rebuild}

-- what a line that was read says
abbrev pub line_view : ReadLine → Line
line_view Empty = EmptyLine
line_view (Key key) = KeyLine key
line_view (Doc id words) = DocLine id words
line_view (Setup b big pad) = SetupLine b big pad
line_view (Add id words) = AddLine id words
line_view (Del id) = DelLine id
line_view (Find word) = FindLine word.now
line_view (Query fields) = QueryLine fields
line_view (Rebuild key) = RebuildLine key
