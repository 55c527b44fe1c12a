-- A frame in the order in which it is written: its head, then the joined bytes of its lists. No public clause cites this.
use Rattle.std.specs.Prelude.{ℕ, ◌+◌, ◌*◌, List, [], ◌∷◌, ◌++◌, length}
use Rattle.std.specs.List.{flat_map}
use Rattle.sse_frames.specs.declared.frame.Frame.{Frame}
use Rattle.sse_frames.specs.declared.frame.Frame.TheVariants as frames
use Rattle.sse_frames.specs.Frames.{FrameText, Hello, SetupBegin, SetupDict, SetupArray, SetupEnd, AddFrame, DeleteFrame, SearchFrame, be16, be32, entry_bytes, joined}

-- the length of the body, the kind byte, and the fields that are one number each
abbrev pub head_of : FrameText → List ℕ
head_of Hello = be32 1 ++ 0x01 ∷ []
head_of (SetupBegin q b big m a) = be32 17 ++ 0x02 ∷ be32 q ++ be16 b ++ be16 big ++ be32 m ++ be32 a
head_of (SetupDict q width entries) = be32 (9 + length entries * (16 + width)) ++ 0x03 ∷ be32 q ++ be16 width ++ be16 (length entries)
head_of (SetupArray q width blocks) = be32 (9 + length blocks * width) ++ 0x04 ∷ be32 q ++ be16 width ++ be16 (length blocks)
head_of (SetupEnd q) = be32 5 ++ 0x05 ∷ be32 q
head_of (AddFrame q entries numbers) = be32 (9 + length entries * 24 + length numbers * 16) ++ 0x06 ∷ be32 q ++ be16 (length entries) ++ be16 (length numbers)
head_of (DeleteFrame q numbers) = be32 (7 + length numbers * 16) ++ 0x07 ∷ be32 q ++ be16 (length numbers)
head_of (SearchFrame token) = be32 161 ++ 0x08 ∷ []

-- the joined bytes of the lists
abbrev pub lists_of : FrameText → List ℕ
lists_of Hello = []
lists_of (SetupBegin q b big m a) = []
lists_of (SetupDict q width entries) = flat_map entry_bytes entries
lists_of (SetupArray q width blocks) = joined blocks
lists_of (SetupEnd q) = []
lists_of (AddFrame q entries numbers) = flat_map entry_bytes entries ++ joined numbers
lists_of (DeleteFrame q numbers) = joined numbers
lists_of (SearchFrame token) = token

-- the same of a frame of the code
abbrev pub lists_in : Frame → List ℕ
lists_in frames.Hello = []
lists_in (frames.SetupBegin q b big m a) = []
lists_in (frames.SetupDict q width entries) = entries.now
lists_in (frames.SetupArray q width blocks) = blocks.now
lists_in (frames.SetupEnd q) = []
lists_in (frames.Add q entries numbers) = entries.now ++ numbers.now
lists_in (frames.Delete q numbers) = numbers.now
lists_in (frames.Search token) = token.now
