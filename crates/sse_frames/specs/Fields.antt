-- Reading a body from left to right: its fields by the table of kinds, and the first that is bad.
use Rattle.std.specs.Prelude.{◌≡◌, ℕ, zero, suc, ◌+◌, ◌-◌, ◌%◌, Bool, true, false, ◌&&◌, ◌||◌, List, [], ◌∷◌, length, take, drop, Option, Some, None, Result, Ok, Err, nat_le, ◌==◌, if◌then◌else◌, slice_index}
use Rattle.std.specs.Int.{Width, w16, w64, byte_len, from_be_bytes}
use Rattle.sse_frames.specs.Order.{is_below}
use Rattle.sse_frames.specs.declared.fault.FrameFault.{FrameFault}
use Rattle.sse_frames.specs.declared.fault.FrameFault.TheVariants.{BadBody}

-- a field: the place of its first byte in the body, and the test that it is whole and in its range
pub record Field : Type 0 where
  pub place : ℕ
  pub stands : List ℕ → Bool

-- so many bytes at a place, and the number that they are, most significant byte first
abbrev pub bytes_at : ℕ → ℕ → List ℕ → List ℕ
bytes_at place size body = take size (drop place body)

unfoldable pub number_at : Width → ℕ → List ℕ → ℕ
number_at w place body = from_be_bytes w (bytes_at place (byte_len w) body)

abbrev pub is_whole : ℕ → ℕ → List ℕ → Bool
is_whole place size body = nat_le (place + size) (length body)

-- bytes of any value
abbrev pub bytes_field : (size place : ℕ) → Field
bytes_field size place = record { place = place; stands = λ body. is_whole place size body }

-- a number between two limits
abbrev pub range_field : Width → (low high place : ℕ) → Field
range_field w low high place = record {
  place = place;
  stands = λ body. is_whole place (byte_len w) body && (nat_le low (number_at w place body) && nat_le (number_at w place body) high);
}

-- a byte between two limits
abbrev pub byte_field : (low high place : ℕ) → Field
byte_field low high place = record {
  place = place;
  stands = λ body. is_whole place 1 body && (nat_le low (slice_index body place) && nat_le (slice_index body place) high);
}

-- the width of a cell: 1 + 8b for a b from 1 to 64
abbrev pub is_cell_width : ℕ → Bool
is_cell_width width = nat_le 9 width && (nat_le width 513 && ((width % 8) == 1))

abbrev pub cell_width_field : ℕ → Field
cell_width_field place = record { place = place; stands = λ body. is_whole place 2 body && is_cell_width (number_at w16 place body) }

-- the width of a block: 8B for a B from 1 to 256
abbrev pub is_block_width : ℕ → Bool
is_block_width width = nat_le 8 width && (nat_le width 2048 && ((width % 8) == 0))

abbrev pub block_width_field : ℕ → Field
block_width_field place = record { place = place; stands = λ body. is_whole place 2 body && is_block_width (number_at w16 place body) }

-- a label or a revocation number: 16 bytes, above those that begin so many bytes before them, unless it is the first
abbrev pub is_above : ℕ → ℕ → List ℕ → Bool
is_above place back body = is_below (bytes_at (place - back) 16 body) (bytes_at place 16 body)

abbrev pub rising_field : (first : Bool) (back place : ℕ) → Field
rising_field first back place = record { place = place; stands = λ body. is_whole place 16 body && (first || is_above place back body) }

-- the body ends here
abbrev pub end_field : ℕ → Field
end_field place = record { place = place; stands = λ body. length body == place }

-- so many entries from a place on, each a label and so many bytes under it
abbrev pub entry_fields : (first : Bool) (width count place : ℕ) → List Field
entry_fields first width zero place = []
entry_fields first width (suc count) place =
    rising_field first (16 + width) place ∷ bytes_field width (place + 16) ∷ entry_fields false width count (place + (16 + width))

-- so many blocks of the width from a place on
abbrev pub block_fields : (width count place : ℕ) → List Field
block_fields width zero place = []
block_fields width (suc count) place = bytes_field width place ∷ block_fields width count (place + width)

-- so many revocation numbers from a place on
abbrev pub number_fields : (first : Bool) (count place : ℕ) → List Field
number_fields first zero place = []
number_fields first (suc count) place = rising_field first 16 place ∷ number_fields false count (place + 16)

-- so many identifiers from a place on, none of them 0
abbrev pub id_fields : (count place : ℕ) → List Field
id_fields zero place = []
id_fields (suc count) place = range_field w64 1 0xffffffffffffffff place ∷ id_fields count (place + 8)

-- the fault of the first field that doesn't stand
abbrev pub first_fault : List Field → List ℕ → Option FrameFault
first_fault [] body = None
first_fault (field ∷ fields) body = if field.stands body then first_fault fields body else Some (BadBody field.place)

-- what reading a field answered: its value where it stands, and else its place
abbrev pub ReadsField : {T : Type 0} → Field → List ℕ → Result T FrameFault → (T → Type 0) → Type 0
ReadsField field body (Ok x) P = (field.stands body ≡ true) × P x
ReadsField field body (Err e) P = (field.stands body ≡ false) × (e ≡ BadBody field.place)
