-- Numbers as bytes.
use Rattle.std.specs.Prelude.{ℕ, List, map, flat_map}
use Rattle.std.specs.Int.{w64, to_be_bytes, from_be_bytes}
use Rattle.list_packing.specs.Parts.{parts}

-- numbers as bytes: eight each, high byte first
abbrev pub number_bytes : List ℕ → List ℕ
number_bytes numbers = flat_map (to_be_bytes w64) numbers

-- the numbers of bytes: eight bytes each, high byte first
abbrev pub numbers_of : List ℕ → List ℕ
numbers_of bytes = map (from_be_bytes w64) (parts 8 bytes)
