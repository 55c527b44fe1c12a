-- The number that a word writes.
use Rattle.std.specs.Prelude.{ℕ, ◌^◌, Bool, ◌&&◌, ◌||◌, List, length, nat_le, nat_lt, ◌==◌, slice_index, Option, Some, None, if◌then◌else◌}
use Rattle.std.specs.Option.{option_and_then}
use Rattle.std.specs.Char.{is_ascii_digit}
use Rattle.std.specs.List.{list_all}
use Rattle.std.specs.Str.Parse.{digits_value}

-- decimal digits, the first of several not a 0: no sign, no leading zero
abbrev pub is_numeral : List ℕ → Bool
is_numeral word = (length word == 1 || nat_lt 48 (slice_index word 0)) && list_all is_ascii_digit word

-- the number, if it is below a limit
abbrev pub numeral_below : (limit : ℕ) → List ℕ → Option ℕ
numeral_below limit word = if is_numeral word && nat_lt (digits_value 10 word) limit then Some (digits_value 10 word) else None

-- the number, where it is one up to 2^32-1
abbrev pub number_of : List ℕ → Option ℕ
number_of word = numeral_below (2 ^ 32) word

-- a number, where it is one from `low` to `high`
abbrev pub within : (low high : ℕ) → ℕ → Option ℕ
within low high n = if nat_le low n && nat_le n high then Some n else None

-- the number from `low` to `high` that a word writes
unfoldable pub number_within : (low high : ℕ) → List ℕ → Option ℕ
number_within low high word = option_and_then (within low high) (number_of word)
