-- The grammar of the lines of a vault's script (docs/FORMATS.md).
use Rattle.std.specs.Prelude.{ℕ, ◌^◌, ◌&&◌, Bool, false, List, [], ◌∷◌, length, nat_le, nat_lt, codes, Option, Some, None, is_some, option_map, if◌then◌else◌}
use Rattle.std.specs.Result.{result_ok}
use Rattle.std.specs.Str.{bytes_eq}
use Rattle.hex.specs.Hex.{decode_of}
use Rattle.sse_script.specs.Fields.{fields_of}
use Rattle.sse_script.specs.Numbers.{number_of, key_of}

-- what one line says
pub data VaultLineText : Type 0 where
  EmptyLine : VaultLineText
  KeyLine : (key : List ℕ) → VaultLineText
  PutLine : (id : ℕ) (body : List ℕ) → VaultLineText
  DropLine : (id : ℕ) → VaultLineText
  GetLine : (id : ℕ) → VaultLineText

-- the bytes of an even number of hexadecimal digits, in either case
abbrev pub bytes_of_digits : List ℕ → Option (List ℕ)
bytes_of_digits digits = result_ok (decode_of digits)

-- `key`: 64 hexadecimal digits
abbrev pub key_line : List (List ℕ) → Option VaultLineText
key_line (key ∷ []) = option_map KeyLine (key_of key)
key_line _ = None

-- a put of this identifier and this text, if each field is one
abbrev pub put_parts : Option ℕ → Option (List ℕ) → Option VaultLineText
put_parts (Some id) (Some body) = Some (PutLine id body)
put_parts _ _ = None

-- `put`: a number, and the text in hexadecimal digits; it is empty if the digits are left out
abbrev pub put_line : List (List ℕ) → Option VaultLineText
put_line (id ∷ []) = put_parts (number_of id) (Some [])
put_line (id ∷ digits ∷ []) = put_parts (number_of id) (bytes_of_digits digits)
put_line _ = None

-- `drop` and `get`: a number
abbrev pub numbered_line : (ℕ → VaultLineText) → List (List ℕ) → Option VaultLineText
numbered_line line (id ∷ []) = option_map line (number_of id)
numbered_line line _ = None

-- a line by its first field; None if it isn't in the grammar
abbrev pub vault_line_by_kind : List (List ℕ) → Option VaultLineText
vault_line_by_kind [] = Some EmptyLine
vault_line_by_kind (kind ∷ fields) =
    if bytes_eq kind (codes "key") then key_line fields
    else if bytes_eq kind (codes "put") then put_line fields
    else if bytes_eq kind (codes "drop") then numbered_line DropLine fields
    else if bytes_eq kind (codes "get") then numbered_line GetLine fields
    else None

-- the line of at most 2^19 bytes that these bytes are
abbrev pub vault_line_of : List ℕ → Option VaultLineText
vault_line_of bytes = if nat_lt (2 ^ 19) (length bytes) then None else vault_line_by_kind (fields_of bytes)

-- Which lines are puts with digits, whatever these are: only these need memory.

-- by the fields after `put`
abbrev pub has_digits : List (List ℕ) → Bool
has_digits (id ∷ digits ∷ []) = is_some (number_of id)
has_digits _ = false

-- by all fields
abbrev pub puts_digits_by_kind : List (List ℕ) → Bool
puts_digits_by_kind [] = false
puts_digits_by_kind (kind ∷ fields) = bytes_eq kind (codes "put") && has_digits fields

-- by the bytes, of which there are at most 2^19
abbrev pub puts_digits : List ℕ → Bool
puts_digits bytes = nat_le (length bytes) (2 ^ 19) && puts_digits_by_kind (fields_of bytes)
