-- A number made of the bytes of a word, by which almost all words that differ are told apart.
use Rattle.std.specs.Prelude.{ℕ, ◌+◌, ◌*◌, ◌%◌, ◌^◌, List, fold}

-- the number after one byte more
abbrev pub mark_more : ℕ → ℕ → ℕ
mark_more mark byte = (mark * 0x9e3779b97f4a7c15 % 2 ^ 64 + byte) % 2 ^ 64

-- the mark of these bytes: equal words have equal marks, but not always the other way round
abbrev pub word_mark : List ℕ → ℕ
word_mark bytes = fold mark_more 0 bytes
