-- The frames that carry the index of a setup.
use Rattle.std.specs.Prelude.{◌≡◌, ℕ, ◌+◌, ◌*◌, List, [], ◌∷◌, ◌++◌, length, map}
use Rattle.std.specs.Int.{div_ceil}
use Rattle.list_packing.specs.Parts.{parts}
use Rattle.sse_frames.specs.Frames.{Entry, FrameText, SetupBegin, SetupDict, SetupArray, SetupEnd, frame_bytes}
use Rattle.sse_frames.specs.FrameViews.{entries_in, items_in}
use Rattle.sse_frames.specs.SentParts.{numbered}
use Rattle.index_setup.specs.declared.index.Index.{Index}

-- the frames of a setup whose entries and blocks are sent in this order, each yet to be numbered: the entries, 1,024
-- a frame, and the blocks, 256 a frame
abbrev pub frames_between : (b big : ℕ) → List Entry → List (List ℕ) → List (ℕ → FrameText)
frames_between b big entries blocks =
    (λ q. SetupBegin q b big (length entries) (length blocks))
    ∷ map (λ part q. SetupDict q (1 + 8 * b) part) (parts 1024 entries)
    ++ map (λ part q. SetupArray q (8 * big) part) (parts 256 blocks)
    ++ (λ q. SetupEnd q) ∷ []

-- those of joined entries and blocks
abbrev pub frames_of_joined : (b big : ℕ) → List ℕ → List ℕ → List (ℕ → FrameText)
frames_of_joined b big entries array = frames_between b big (entries_in (1 + 8 * b) entries) (items_in (8 * big) array)

-- and those of an index
abbrev pub index_frames : Index → List (ℕ → FrameText)
index_frames index = frames_of_joined index.b index.big index.entries index.array

-- how many they are
abbrev pub frames_in : Index → ℕ
frames_in index = 2 + div_ceil index.words 1024 + div_ceil index.blocks 256

-- the bytes of such frames, numbered from 0
abbrev pub setup_bytes : (b big : ℕ) → List ℕ → List ℕ → List (List ℕ)
setup_bytes b big entries array = map frame_bytes (numbered 0 (frames_of_joined b big entries array))

-- the frames of so many entries and blocks
pub record SendsSetup (b big entry_count block_count : ℕ) (frames : List (List ℕ)) : Type 0 where
  pub entries : List ℕ
  pub array : List ℕ
  pub whole : length entries ≡ entry_count * (17 + 8 * b)
  pub array_whole : length array ≡ block_count * (8 * big)
  pub sent : frames ≡ setup_bytes b big entries array
