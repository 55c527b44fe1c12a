-- The frames that a setup sends, and the replies to a search.
use Rattle.std.specs.Prelude.{ℕ, ◌+◌, ◌*◌, true, false, List, [], ◌∷◌, ◌++◌, length, map}
use Rattle.list_packing.specs.Parts.{parts}
use Rattle.two_level.specs.Shape.{Shape}
use Rattle.sse_frames.specs.Frames.{Entry, FrameText, SetupBegin, SetupDict, SetupArray, SetupEnd}
use Rattle.sse_frames.specs.Replies.{ReplyText, Page}
use Rattle.sse_frames.specs.Order.{by_bytes}

-- each at its number, the first at q
abbrev pub numbered : {X : Type 0} → ℕ → List (ℕ → X) → List X
numbered q [] = []
numbered q (f ∷ fs) = f q ∷ numbered (q + 1) fs

-- the dictionary's frames: the entries by rising label, 1,024 a frame
abbrev pub dict_frames : Shape → List Entry → List (ℕ → FrameText)
dict_frames shape entries = map (λ part q. SetupDict q (1 + 8 * shape.b) part) (parts 1024 (by_bytes (λ entry. entry.label) entries))

-- the array's frames: the blocks by rising place tag, which is their label here, 256 a frame
abbrev pub array_frames : Shape → List Entry → List (ℕ → FrameText)
array_frames shape blocks =
    map (λ part q. SetupArray q (8 * shape.big) (map (λ block. block.text) part)) (parts 256 (by_bytes (λ block. block.label) blocks))

-- the frames of a setup, the first at number q
abbrev pub setup_frames : ℕ → Shape → List Entry → List Entry → List FrameText
setup_frames q shape entries blocks = numbered q
    ((λ q. SetupBegin q shape.b shape.big (length entries) (length blocks)) ∷ dict_frames shape entries ++ array_frames shape blocks ++ (λ q. SetupEnd q) ∷ [])

-- a page for each part, the last one marked
abbrev pub page_each : List ℕ → List (List ℕ) → List ReplyText
page_each ids [] = Page true ids ∷ []
page_each ids (more ∷ others) = Page false ids ∷ page_each more others

abbrev pub pages_of : List (List ℕ) → List ReplyText
pages_of [] = Page true [] ∷ []
pages_of (ids ∷ others) = page_each ids others

-- the replies to a search with this answer: 8,192 identifiers a page, and one page where there is none
abbrev pub pages : List ℕ → List ReplyText
pages ids = pages_of (parts 8192 ids)

-- the identifiers of a page, none of another reply
abbrev pub page_ids : ReplyText → List ℕ
page_ids (Page last ids) = ids
page_ids _ = []
