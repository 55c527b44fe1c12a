-- A contract's view of the answers of the code, and of the memory that a frame needs.
use Rattle.std.specs.Prelude.{ℕ, List, [], ◌∷◌, ◌++◌, length, take}
use Rattle.search_token.specs.KeyedFn.{KeyedFn}
use Rattle.sse_frames.specs.Frames.{FrameText, Hello, SetupBegin, SetupDict, SetupArray, SetupEnd, AddFrame, DeleteFrame, SearchFrame}
use Rattle.sse_frames.specs.Replies as replies
use Rattle.sse_frames.specs.Replies.{ReplyText, InReplies}
use Rattle.server_core.specs.declared.cause.Cause.{Cause}
use Rattle.server_core.specs.declared.cause.Cause.TheVariants as causes
use Rattle.server_core.specs.declared.refuse.Refuse.{Refuse}
use Rattle.server_core.specs.declared.refuse.Refuse.TheVariants.{Number, OutOfPlace, Clash, NoMemory}
use Rattle.server_core.specs.declared.answer.Answer.{Answer}
use Rattle.server_core.specs.declared.answer.Answer.TheVariants as answers
use Rattle.sse_frames.specs.SentParts.{pages}
use Rattle.server_core.specs.State.{ServerState}
use Rattle.server_core.specs.Walk.{contents_of, rest_of, HasPage}
use Rattle.server_tables.specs.Room as tables
use Rattle.server_tables.specs.Room.{Room, no_room, pieces}

abbrev pub refuse_reply : Refuse → ReplyText
refuse_reply (Number next) = replies.Number next
refuse_reply OutOfPlace = replies.OutOfPlace
refuse_reply (Clash what place) = replies.Clash what place
refuse_reply NoMemory = replies.NoMemory

abbrev pub cause_reply : Cause → ReplyText
cause_reply (causes.Number next) = replies.Number next
cause_reply causes.OutOfPlace = replies.OutOfPlace
cause_reply (causes.Clash what place) = replies.Clash what place

-- the answer to an update frame that isn't taken
abbrev pub answer_of : Refuse → Answer
answer_of (Number next) = answers.Number next
answer_of OutOfPlace = answers.OutOfPlace
answer_of (Clash what place) = answers.Clash what place
answer_of NoMemory = answers.NoMemory

-- the replies that an answer stands for: those to a search begin with the identifiers that stand in the page, and the walk
-- gives the others
abbrev pub answer_replies : KeyedFn → ServerState → Answer → (page : List ℕ) → List ReplyText
answer_replies f s (answers.Next q) page = replies.Next q ∷ []
answer_replies f s (answers.Took q) page = replies.Took q ∷ []
answer_replies f s (answers.Number next) page = replies.Number next ∷ []
answer_replies f s (answers.Clash what place) page = replies.Clash what place ∷ []
answer_replies f s (answers.Found count walk) page = pages (take count page ++ rest_of f (contents_of s) walk)
answer_replies f s answers.BadList page = replies.BadList ∷ []
answer_replies f s answers.NoMemory page = replies.NoMemory ∷ []
answer_replies f s answers.OutOfPlace page = replies.OutOfPlace ∷ []

-- where a search was begun, its walk goes on after the page
abbrev pub HasBegun : KeyedFn → ServerState → Answer → (page : List ℕ) → Type 0
HasBegun f s (answers.Found count walk) page = HasPage f (contents_of s) count walk page
HasBegun f s _ page = Unit {0}

-- the numbers of an answer are in the ranges of its reply
abbrev pub HasRange : Answer → Type 0
HasRange (answers.Took q) = InReplies (replies.Took q)
HasRange (answers.Clash what place) = InReplies (replies.Clash what place)
HasRange _ = Unit {0}

-- the room that a frame needs
abbrev pub room_of : FrameText → Room
room_of Hello = no_room
room_of (SetupBegin q b big m a) = no_room
room_of (SetupDict q width entries) = record no_room { entries = pieces (length entries) width }
room_of (SetupArray q width blocks) = record no_room { blocks = pieces (length blocks) width }
room_of (SetupEnd q) = no_room
room_of (AddFrame q entries numbers) = record no_room { additions = pieces (length entries) 8 }
room_of (DeleteFrame q numbers) = record no_room { revoked = pieces (length numbers) 16 }
room_of (SearchFrame token) = no_room

abbrev pub HasRoom : Room → FrameText → Type 0
HasRoom room frame = tables.HasRoom room (room_of frame)

-- the frames for which a server takes memory: those that bring something to keep
abbrev pub TakesMemory : FrameText → Type 0
TakesMemory Hello = ⊥
TakesMemory (SetupBegin q b big m a) = ⊥
TakesMemory (SetupDict q width entries) = Unit {0}
TakesMemory (SetupArray q width blocks) = Unit {0}
TakesMemory (SetupEnd q) = ⊥
TakesMemory (AddFrame q entries numbers) = Unit {0}
TakesMemory (DeleteFrame q numbers) = Unit {0}
TakesMemory (SearchFrame token) = ⊥
