-- The two numbers of a hasher, out of a key.
use Rattle.std.specs.Prelude.{ℕ, List, take, drop}
use Rattle.std.specs.Int.{w64, from_be_bytes}

-- the two numbers that a key begins with, 8 bytes each, high byte first
abbrev pub numbers_of_key : List ℕ → ℕ × ℕ
numbers_of_key key = (from_be_bytes w64 (take 8 key), from_be_bytes w64 (take 8 (drop 8 key)))
