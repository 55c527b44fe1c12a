-- The fields of a line: its runs of bytes other than a space.
use Rattle.std.specs.Prelude.{ℕ, Bool, List, length, nat_lt, ◌==◌}
use Rattle.std.specs.List.{filter, slice_split}

-- the byte between fields
abbrev pub is_space : ℕ → Bool
is_space byte = byte == 32

-- whether a text between two spaces is a field: it isn't empty
abbrev pub is_field : List ℕ → Bool
is_field text = nat_lt 0 (length text)

-- the texts between the spaces of a line, without the empty ones
abbrev pub fields_of : List ℕ → List (List ℕ)
fields_of line = filter is_field (slice_split is_space line)
