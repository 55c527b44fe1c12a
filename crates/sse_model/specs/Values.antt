-- The values that a table may give a name.
use Rattle.two_level.specs.Shape.{Shape}
use Rattle.sse_frames.specs.Frames.{IsBytes}
use Rattle.sse_model.specs.Names.{Name, Table, size_at}

-- the table gives the name as many bytes as its kind and number have, each below 256
abbrev pub IsValue : Shape → Table → Name → Type 0
IsValue s t n = IsBytes (size_at s n.kind n.number) (t n)
