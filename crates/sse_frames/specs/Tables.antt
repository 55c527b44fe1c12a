-- The fields of each kind of body, from left to right, after the kind byte (docs/FORMATS.md).
use Rattle.std.specs.Prelude.{ℕ, ◌+◌, ◌*◌, ◌-◌, true, List, [], ◌∷◌, ◌++◌, Option, Some, None, ◌==◌, if◌then◌else◌, slice_index}
use Rattle.std.specs.Int.{w16, w32}
use Rattle.sse_frames.specs.Fields.{Field, number_at, bytes_field, byte_field, range_field, cell_width_field, block_width_field, entry_fields, block_fields, number_fields, id_fields, end_field}

-- the number of an update frame
abbrev pub number_field : Field
number_field = range_field w32 0 0xfffffffe 1

-- Hello: no field
abbrev pub hello_fields : List Field
hello_fields = end_field 1 ∷ []

-- SetupBegin: its number, b, B, the words and the blocks
abbrev pub setup_begin_fields : List Field
setup_begin_fields = number_field ∷ range_field w16 1 64 5 ∷ range_field w16 1 256 7 ∷ range_field w32 0 0x100000 9 ∷ range_field w32 0 0x100000 13 ∷ end_field 17 ∷ []

-- SetupDict: its number, the width of a cell, the count, and so many entries
abbrev pub setup_dict_fields : (width count : ℕ) → List Field
setup_dict_fields width count = number_field ∷ cell_width_field 5 ∷ range_field w16 1 1024 7 ∷ entry_fields true width count 9 ++ end_field (9 + count * (16 + width)) ∷ []

-- SetupArray: its number, the width of a block, the count, and so many blocks
abbrev pub setup_array_fields : (width count : ℕ) → List Field
setup_array_fields width count = number_field ∷ block_width_field 5 ∷ range_field w16 1 256 7 ∷ block_fields width count 9 ++ end_field (9 + count * width) ∷ []

-- SetupEnd: its number
abbrev pub setup_end_fields : List Field
setup_end_fields = number_field ∷ end_field 5 ∷ []

-- Add: its number, the count of entries, the count of revocation numbers, which are 4,096 at most with the entries, then
-- the entries, with 8 bytes under each label, and the numbers
abbrev pub add_fields : (e r : ℕ) → List Field
add_fields e r =
    number_field ∷ range_field w16 0 4096 5 ∷ range_field w16 0 (4096 - e) 7
    ∷ entry_fields true 8 e 9 ++ (number_fields true r (9 + e * 24) ++ end_field (9 + e * 24 + r * 16) ∷ [])

-- Delete: its number, the count, and so many revocation numbers
abbrev pub delete_fields : (r : ℕ) → List Field
delete_fields r = number_field ∷ range_field w16 0 4096 5 ∷ number_fields true r 7 ++ end_field (7 + r * 16) ∷ []

-- Search: the token
abbrev pub search_fields : List Field
search_fields = bytes_field 160 1 ∷ end_field 161 ∷ []

-- the fields of a frame's body by its kind byte; none where that is no kind
abbrev pub frame_fields : List ℕ → Option (List Field)
frame_fields body =
    if slice_index body 0 == 0x01 then Some hello_fields
    else if slice_index body 0 == 0x02 then Some setup_begin_fields
    else if slice_index body 0 == 0x03 then Some (setup_dict_fields (number_at w16 5 body) (number_at w16 7 body))
    else if slice_index body 0 == 0x04 then Some (setup_array_fields (number_at w16 5 body) (number_at w16 7 body))
    else if slice_index body 0 == 0x05 then Some setup_end_fields
    else if slice_index body 0 == 0x06 then Some (add_fields (number_at w16 5 body) (number_at w16 7 body))
    else if slice_index body 0 == 0x07 then Some (delete_fields (number_at w16 5 body))
    else if slice_index body 0 == 0x08 then Some search_fields
    else None

-- a number of 32 bits, any
abbrev pub any_field : ℕ → Field
any_field place = range_field w32 0 0xffffffff place

-- Next and Number: a number
abbrev pub next_fields : List Field
next_fields = any_field 1 ∷ end_field 5 ∷ []

-- Took: the number of an update frame
abbrev pub took_fields : List Field
took_fields = number_field ∷ end_field 5 ∷ []

-- Clash: what collides, and its place in the frame's list
abbrev pub clash_fields : List Field
clash_fields = byte_field 1 3 1 ∷ any_field 2 ∷ end_field 6 ∷ []

-- the identifiers that a page has at least: one that isn't the last is full
abbrev pub least_ids : (last : ℕ) → ℕ
least_ids last = if last == 0 then 8192 else 0

-- Page: whether it is the last, the count, and so many identifiers
abbrev pub page_fields : (last count : ℕ) → List Field
page_fields last count = byte_field 0 1 1 ∷ range_field w16 (least_ids last) 8192 2 ∷ id_fields count 4 ++ end_field (4 + count * 8) ∷ []

-- BadFrame: the reason
abbrev pub bad_frame_fields : List Field
bad_frame_fields = byte_field 1 3 1 ∷ end_field 2 ∷ []

-- BadList, NoMemory, StoreFault and OutOfPlace: no field
abbrev pub bare_fields : List Field
bare_fields = end_field 1 ∷ []

-- the fields of a reply's body by its kind byte; none where that is no kind
abbrev pub reply_fields : List ℕ → Option (List Field)
reply_fields body =
    if slice_index body 0 == 0x81 then Some next_fields
    else if slice_index body 0 == 0x82 then Some took_fields
    else if slice_index body 0 == 0x83 then Some next_fields
    else if slice_index body 0 == 0x84 then Some clash_fields
    else if slice_index body 0 == 0x85 then Some (page_fields (slice_index body 1) (number_at w16 2 body))
    else if slice_index body 0 == 0x86 then Some bare_fields
    else if slice_index body 0 == 0x87 then Some bare_fields
    else if slice_index body 0 == 0x88 then Some bare_fields
    else if slice_index body 0 == 0x89 then Some bad_frame_fields
    else if slice_index body 0 == 0x8a then Some bare_fields
    else None
