-- The bytes that are a word, and the first cause why others are none (docs/FORMATS.md).
use Rattle.std.specs.Prelude.{ℕ, Bool, ◌||◌, ◌==◌, nat_lt, nat_le, min, List, length, position, unwrap_or, Option, None, Some, if◌then◌else◌}
use Rattle.std.specs.Str.Lossy.{utf8_valid_len}
use Rattle.client_registry.specs.declared.faults.WordFault.{WordFault}
use Rattle.client_registry.specs.declared.faults.WordFault.TheVariants.{Empty, TooLong, BadByte}

-- a byte that stands in no word: a control byte, the blank, or 7f
abbrev pub is_forbidden : ℕ → Bool
is_forbidden byte = nat_le byte 0x20 || byte == 0x7f

-- the place of the first forbidden byte; the length where there is none
abbrev pub allowed_len : List ℕ → ℕ
allowed_len bytes = unwrap_or (position is_forbidden bytes) (length bytes)

-- the place of the first forbidden byte or of the first ill-formed UTF-8 sequence, whichever is the lesser; the length where there is neither
abbrev pub clean_len : List ℕ → ℕ
clean_len bytes = min (allowed_len bytes) (utf8_valid_len bytes)

-- why these bytes are no word: the first of these causes that stands
abbrev pub word_refusal : List ℕ → Option WordFault
word_refusal bytes =
    if length bytes == 0 then Some Empty
    else if nat_lt 64 (length bytes) then Some (TooLong (length bytes))
    else if nat_lt (clean_len bytes) (length bytes) then Some (BadByte (clean_len bytes))
    else None
