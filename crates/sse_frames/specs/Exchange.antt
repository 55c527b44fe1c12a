-- The traffic between a client and a server: the greeting, which opens a session, and frames, each with its replies; and the replies that frames
-- after the greeting must have, whatever the searches among them find.
use Rattle.std.specs.Prelude.{ℕ, ◌+◌, List, [], ◌∷◌, ◌++◌, map, drop}
use Rattle.sse_frames.specs.Frames.{FrameText, Hello, SetupBegin, SetupDict, SetupArray, SetupEnd, AddFrame, DeleteFrame, SearchFrame}
use Rattle.sse_frames.specs.Replies.{ReplyText, Next, Took}
use Rattle.sse_frames.specs.SentParts.{pages}

-- a frame that was sent or a reply that was received
pub data Passed : Type 0 where
  Sent : FrameText → Passed
  Received : ReplyText → Passed

-- frames with replies: one after each frame, and after the last frame all that are left
abbrev pub exchanged : List FrameText → List ReplyText → List Passed
exchanged [] rs = map Received rs
exchanged (frame ∷ []) rs = Sent frame ∷ map Received rs
exchanged (frame ∷ next ∷ frames) [] = Sent frame ∷ exchanged (next ∷ frames) []
exchanged (frame ∷ next ∷ frames) (r ∷ rs) = Sent frame ∷ Received r ∷ exchanged (next ∷ frames) rs

-- what opens a session: Hello, and the number of the update that the server expects
abbrev pub greeting : (next : ℕ) → List Passed
greeting next = Sent Hello ∷ Received (Next next) ∷ []

-- the frames among these
abbrev pub sent_among : List Passed → List FrameText
sent_among [] = []
sent_among (Sent frame ∷ later) = frame ∷ sent_among later
sent_among (Received reply ∷ later) = sent_among later

-- Replies that are to come, after the greeting.

-- what a frame asks of a server: the number of the update that it expects, to take the update of this number, or an answer
pub data Asked : Type 0 where
  ForNext : Asked
  ForTook : (q : ℕ) → Asked
  ForAnswer : Asked

abbrev pub asked : FrameText → Asked
asked Hello = ForNext
asked (SetupBegin q b big m a) = ForTook q
asked (SetupDict q width entries) = ForTook q
asked (SetupArray q width blocks) = ForTook q
asked (SetupEnd q) = ForTook q
asked (AddFrame q entries numbers) = ForTook q
asked (DeleteFrame q numbers) = ForTook q
asked (SearchFrame token) = ForAnswer

-- the replies that are to come: that a server took an update, or the pages of an answer. None after the greeting is Hello's,
-- whose reply the greeting has
abbrev pub expected : List ℕ → Asked → List ReplyText
expected ids ForNext = []
expected ids (ForTook q) = Took q ∷ []
expected ids ForAnswer = pages ids

-- the first of the answers that came, and none where none came
abbrev pub first_answer : List (List ℕ) → List ℕ
first_answer [] = []
first_answer (ids ∷ answers) = ids

-- the answers after a frame: a search has taken the first
abbrev pub answers_behind : Asked → List (List ℕ) → List (List ℕ)
answers_behind ForAnswer answers = drop 1 answers
answers_behind asks answers = answers

-- the replies to each of these frames, where the searches among them have these answers
abbrev pub replied : List (List ℕ) → List FrameText → List (List ReplyText)
replied answers [] = []
replied answers (frame ∷ frames) = expected (first_answer answers) (asked frame) ∷ replied (answers_behind (asked frame) answers) frames

-- each of these frames with its replies, after the greeting
abbrev pub exchange : List (List ℕ) → List FrameText → List Passed
exchange answers [] = []
exchange answers (frame ∷ frames) =
    Sent frame ∷ map Received (expected (first_answer answers) (asked frame)) ++ exchange (answers_behind (asked frame) answers) frames

-- how many answers a frame takes, and how many frames take
abbrev pub answers_to : Asked → ℕ
answers_to ForAnswer = 1
answers_to asks = 0

abbrev pub searches : List FrameText → ℕ
searches [] = 0
searches (frame ∷ frames) = answers_to (asked frame) + searches frames
