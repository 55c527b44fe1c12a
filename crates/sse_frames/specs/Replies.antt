-- Replies as values: the bytes of each, and the replies that there are (docs/FORMATS.md).
use Rattle.std.specs.Prelude.{◌≡◌, ℕ, ◌+◌, ◌*◌, ◌^◌, ◌<◌, ◌≤◌, Bool, false, List, [], ◌∷◌, ◌++◌, length, if◌then◌else◌}
use Rattle.std.specs.List.{flat_map, AllByRecursion}
use Rattle.sse_frames.specs.Frames.{be16, be32, be64, IsNumber}

-- a reply, a page's identifiers as a list
pub data ReplyText : Type 0 where
  Next : (q : ℕ) → ReplyText
  Took : (q : ℕ) → ReplyText
  Number : (q : ℕ) → ReplyText
  Clash : (what place : ℕ) → ReplyText
  Page : (last : Bool) (ids : List ℕ) → ReplyText
  BadList : ReplyText
  NoMemory : ReplyText
  StoreFault : ReplyText
  BadFrame : (reason : ℕ) → ReplyText
  OutOfPlace : ReplyText

-- the body of a reply: its kind byte, then its fields from left to right
abbrev pub reply_body : ReplyText → List ℕ
reply_body (Next q) = 0x81 ∷ be32 q
reply_body (Took q) = 0x82 ∷ be32 q
reply_body (Number q) = 0x83 ∷ be32 q
reply_body (Clash what place) = 0x84 ∷ what ∷ be32 place
reply_body (Page last ids) = 0x85 ∷ (if last then 1 else 0) ∷ be16 (length ids) ++ flat_map be64 ids
reply_body BadList = 0x86 ∷ []
reply_body NoMemory = 0x87 ∷ []
reply_body StoreFault = 0x88 ∷ []
reply_body (BadFrame reason) = 0x89 ∷ reason ∷ []
reply_body OutOfPlace = 0x8a ∷ []

-- a reply: the length of its body, and the body
abbrev pub reply_bytes : ReplyText → List ℕ
reply_bytes reply = be32 (length (reply_body reply)) ++ reply_body reply

-- what stands before a page's identifiers: the length of the body, the kind byte, whether it is the last, and the count
abbrev pub page_head : (last : Bool) (count : ℕ) → List ℕ
page_head last count = be32 (4 + count * 8) ++ 0x85 ∷ (if last then 1 else 0) ∷ be16 count

-- an identifier of a document: 1 to 2^64 - 1
abbrev pub IsIdentifier : ℕ → Type 0
IsIdentifier id = (1 ≤ id) × (id < 2 ^ 64)

-- at most 8,192 identifiers, and as many where the page isn't the last
pub record IsPage (last : Bool) (ids : List ℕ) : Type 0 where
  pub most : length ids ≤ 8192
  pub full : last ≡ false → length ids ≡ 8192
  pub each : AllByRecursion IsIdentifier ids

-- the replies that there are
abbrev pub InReplies : ReplyText → Type 0
InReplies (Next q) = q < 2 ^ 32
InReplies (Took q) = IsNumber q
InReplies (Number q) = q < 2 ^ 32
InReplies (Clash what place) = (1 ≤ what) × (what ≤ 3) × (place < 2 ^ 32)
InReplies (Page last ids) = IsPage last ids
InReplies BadList = Unit {0}
InReplies NoMemory = Unit {0}
InReplies StoreFault = Unit {0}
InReplies (BadFrame reason) = (1 ≤ reason) × (reason ≤ 3)
InReplies OutOfPlace = Unit {0}
