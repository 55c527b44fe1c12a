-- Numbers and keys as fields of a line.
use Rattle.std.specs.Prelude.{ℕ, ◌^◌, Bool, ◌&&◌, ◌||◌, List, length, nat_lt, ◌==◌, slice_index, Option, Some, None, if◌then◌else◌}
use Rattle.std.specs.Result.{result_ok}
use Rattle.std.specs.Char.{is_ascii_digit}
use Rattle.std.specs.List.{list_all}
use Rattle.std.specs.Str.Parse.{digits_value}
use Rattle.hex.specs.Hex.{decode_sized}

-- decimal digits, the first of several not a 0: no sign, no leading zero
abbrev pub is_numeral : List ℕ → Bool
is_numeral field = (length field == 1 || nat_lt 48 (slice_index field 0)) && list_all is_ascii_digit field

-- the number of a field, where it is one up to 2^64-1
abbrev pub number_of : List ℕ → Option ℕ
number_of field = if is_numeral field && nat_lt (digits_value 10 field) (2 ^ 64) then Some (digits_value 10 field) else None

-- the 32 bytes of a key, where the field is 64 hexadecimal digits, in either case
abbrev pub key_of : List ℕ → Option (List ℕ)
key_of field = result_ok (decode_sized field 32)
