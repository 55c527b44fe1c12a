-- Frames as values: the bytes of each, and the frames that there are (docs/FORMATS.md).
use Rattle.std.specs.Prelude.{◌≡◌, ℕ, ◌+◌, ◌*◌, ◌^◌, ◌<◌, ◌≤◌, List, [], ◌∷◌, ◌++◌, length, map, Option, Some, None, slice_index}
use Rattle.std.specs.Int.{w16, w32, w64, to_be_bytes}
use Rattle.std.specs.List.{flat_map, AllByRecursion}
use Rattle.std.specs.List.Sorted.{IsStrictlySortedBy}
use Rattle.std.specs.Ordering.{nat_cmp}
use Rattle.std.specs.Cmp.Lexicographic.{slice_cmp}

-- an entry of a dictionary or of the additions: a label of 16 bytes, and the encrypted bytes under it
pub record Entry : Type 0 where
  pub label : List ℕ
  pub text : List ℕ

-- a frame, its lists as lists of their items
pub data FrameText : Type 0 where
  Hello : FrameText
  SetupBegin : (q b big m a : ℕ) → FrameText
  SetupDict : (q width : ℕ) (entries : List Entry) → FrameText
  SetupArray : (q width : ℕ) (blocks : List (List ℕ)) → FrameText
  SetupEnd : (q : ℕ) → FrameText
  AddFrame : (q : ℕ) (entries : List Entry) (numbers : List (List ℕ)) → FrameText
  DeleteFrame : (q : ℕ) (numbers : List (List ℕ)) → FrameText
  SearchFrame : (token : List ℕ) → FrameText

-- a number of 16, 32 or 64 bits, most significant byte first
abbrev pub be16 : ℕ → List ℕ
be16 n = to_be_bytes w16 n

abbrev pub be32 : ℕ → List ℕ
be32 n = to_be_bytes w32 n

abbrev pub be64 : ℕ → List ℕ
be64 n = to_be_bytes w64 n

-- an entry's label, and the bytes under it
abbrev pub entry_bytes : Entry → List ℕ
entry_bytes entry = entry.label ++ entry.text

-- byte strings, one after the other
abbrev pub joined : List (List ℕ) → List ℕ
joined items = flat_map (λ item. item) items

-- the body of a frame: its kind byte, then its fields from left to right
abbrev pub body_of : FrameText → List ℕ
body_of Hello = 0x01 ∷ []
body_of (SetupBegin q b big m a) = 0x02 ∷ be32 q ++ be16 b ++ be16 big ++ be32 m ++ be32 a
body_of (SetupDict q width entries) = 0x03 ∷ be32 q ++ be16 width ++ be16 (length entries) ++ flat_map entry_bytes entries
body_of (SetupArray q width blocks) = 0x04 ∷ be32 q ++ be16 width ++ be16 (length blocks) ++ joined blocks
body_of (SetupEnd q) = 0x05 ∷ be32 q
body_of (AddFrame q entries numbers) = 0x06 ∷ be32 q ++ be16 (length entries) ++ be16 (length numbers) ++ flat_map entry_bytes entries ++ joined numbers
body_of (DeleteFrame q numbers) = 0x07 ∷ be32 q ++ be16 (length numbers) ++ joined numbers
body_of (SearchFrame token) = 0x08 ∷ token

-- a frame: the length of its body, and the body
abbrev pub frame_bytes : FrameText → List ℕ
frame_bytes frame = be32 (length (body_of frame)) ++ body_of frame

-- the number of an update frame; none for Hello and Search
abbrev pub update_number : FrameText → Option ℕ
update_number Hello = None
update_number (SetupBegin q b big m a) = Some q
update_number (SetupDict q width entries) = Some q
update_number (SetupArray q width blocks) = Some q
update_number (SetupEnd q) = Some q
update_number (AddFrame q entries numbers) = Some q
update_number (DeleteFrame q numbers) = Some q
update_number (SearchFrame token) = None

-- which it is: 0 to 2^32 - 2
abbrev pub IsNumber : ℕ → Type 0
IsNumber q = q < 0xffffffff

-- so many bytes, each below 256
pub record IsBytes (size : ℕ) (bytes : List ℕ) : Type 0 where
  pub size_is : length bytes ≡ size
  pub each : (i : ℕ) → slice_index bytes i < 256

-- a cell of b identifiers has a leading byte and 8 bytes for each
abbrev pub IsCellWidth : ℕ → Type 0
IsCellWidth width = (b : ℕ) × (1 ≤ b) × (b ≤ 64) × (width ≡ 1 + 8 * b)

-- a block has 8 bytes for each of its numbers
abbrev pub IsBlockWidth : ℕ → Type 0
IsBlockWidth width = (big : ℕ) × (1 ≤ big) × (big ≤ 256) × (width ≡ 8 * big)

-- an entry of a label and so many bytes
pub record IsEntry (width : ℕ) (entry : Entry) : Type 0 where
  pub label : IsBytes 16 entry.label
  pub text : IsBytes width entry.text

-- each is below those after it, at the first byte in which they differ
abbrev pub Rises : List (List ℕ) → Type 0
Rises = IsStrictlySortedBy (slice_cmp nat_cmp)

-- the labels of entries, in their order
abbrev pub labels_of : List Entry → List (List ℕ)
labels_of entries = map (λ entry. entry.label) entries

-- the limits of the fields of each kind
pub record IsSetupBegin (q b big m a : ℕ) : Type 0 where
  pub number : IsNumber q
  pub cell : (1 ≤ b) × (b ≤ 64)
  pub block : (1 ≤ big) × (big ≤ 256)
  pub words : m ≤ 2 ^ 20
  pub blocks : a ≤ 2 ^ 20

pub record IsSetupDict (q width : ℕ) (entries : List Entry) : Type 0 where
  pub number : IsNumber q
  pub cell : IsCellWidth width
  pub count : (1 ≤ length entries) × (length entries ≤ 1024)
  pub each : AllByRecursion (IsEntry width) entries
  pub rises : Rises (labels_of entries)

pub record IsSetupArray (q width : ℕ) (blocks : List (List ℕ)) : Type 0 where
  pub number : IsNumber q
  pub block : IsBlockWidth width
  pub count : (1 ≤ length blocks) × (length blocks ≤ 256)
  pub each : AllByRecursion (IsBytes width) blocks

pub record IsAdd (q : ℕ) (entries : List Entry) (numbers : List (List ℕ)) : Type 0 where
  pub number : IsNumber q
  pub count : length entries + length numbers ≤ 4096
  pub each : AllByRecursion (IsEntry 8) entries
  pub rises : Rises (labels_of entries)
  pub each_number : AllByRecursion (IsBytes 16) numbers
  pub numbers_rise : Rises numbers

pub record IsDelete (q : ℕ) (numbers : List (List ℕ)) : Type 0 where
  pub number : IsNumber q
  pub count : length numbers ≤ 4096
  pub each_number : AllByRecursion (IsBytes 16) numbers
  pub numbers_rise : Rises numbers

-- the frames that there are
abbrev pub InGrammar : FrameText → Type 0
InGrammar Hello = Unit {0}
InGrammar (SetupBegin q b big m a) = IsSetupBegin q b big m a
InGrammar (SetupDict q width entries) = IsSetupDict q width entries
InGrammar (SetupArray q width blocks) = IsSetupArray q width blocks
InGrammar (SetupEnd q) = IsNumber q
InGrammar (AddFrame q entries numbers) = IsAdd q entries numbers
InGrammar (DeleteFrame q numbers) = IsDelete q numbers
InGrammar (SearchFrame token) = IsBytes 160 token

-- these bytes are a frame of the grammar
pub record IsFrame (bytes : List ℕ) : Type 0 where
  pub frame : FrameText
  pub grammar : InGrammar frame
  pub spelled : bytes ≡ frame_bytes frame
