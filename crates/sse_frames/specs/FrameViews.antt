-- A contract's view of a Frame or a Reply of the code: its joined bytes are cut into the list's items.
use Rattle.std.specs.Prelude.{ℕ, ◌+◌, ◌/◌, List, length, map, take, drop}
use Rattle.std.specs.Int.{w64, from_be_bytes}
use Rattle.std.specs.Simd.{first_chunks}
use Rattle.sse_frames.specs.declared.frame.Frame.{Frame}
use Rattle.sse_frames.specs.declared.frame.Frame.TheVariants as frames
use Rattle.sse_frames.specs.declared.reply.Reply.{Reply}
use Rattle.sse_frames.specs.declared.reply.Reply.TheVariants as replies
use Rattle.sse_frames.specs.Frames.{Entry, FrameText, Hello, SetupBegin, SetupDict, SetupArray, SetupEnd, AddFrame, DeleteFrame, SearchFrame}
use Rattle.sse_frames.specs.Replies.{ReplyText, Next, Took, Number, Clash, Page, BadList, NoMemory, StoreFault, BadFrame, OutOfPlace}

-- the bytes cut into items of one size, as many as are whole
abbrev pub items_in : ℕ → List ℕ → List (List ℕ)
items_in size bytes = first_chunks size (length bytes / size) bytes

-- an entry's label is its first 16 bytes
abbrev pub entry_in : List ℕ → Entry
entry_in bytes = record { label = take 16 bytes; text = drop 16 bytes }

-- the entries that joined bytes hold, so many bytes under each label
abbrev pub entries_in : ℕ → List ℕ → List Entry
entries_in width bytes = map entry_in (items_in (16 + width) bytes)

-- the numbers of 64 bits that joined bytes hold
abbrev pub numbers_in : List ℕ → List ℕ
numbers_in bytes = map (from_be_bytes w64) (items_in 8 bytes)

-- a frame of the code as a value
abbrev pub frame_view : Frame → FrameText
frame_view frames.Hello = Hello
frame_view (frames.SetupBegin q b big m a) = SetupBegin q b big m a
frame_view (frames.SetupDict q width entries) = SetupDict q width (entries_in width entries.now)
frame_view (frames.SetupArray q width blocks) = SetupArray q width (items_in width blocks.now)
frame_view (frames.SetupEnd q) = SetupEnd q
frame_view (frames.Add q entries numbers) = AddFrame q (entries_in 8 entries.now) (items_in 16 numbers.now)
frame_view (frames.Delete q numbers) = DeleteFrame q (items_in 16 numbers.now)
frame_view (frames.Search token) = SearchFrame token.now

-- a reply of the code as a value
abbrev pub reply_view : Reply → ReplyText
reply_view (replies.Next q) = Next q
reply_view (replies.Took q) = Took q
reply_view (replies.Number q) = Number q
reply_view (replies.Clash what place) = Clash what place
reply_view (replies.Page last ids) = Page last (numbers_in ids.now)
reply_view replies.BadList = BadList
reply_view replies.NoMemory = NoMemory
reply_view replies.StoreFault = StoreFault
reply_view (replies.BadFrame reason) = BadFrame reason
reply_view replies.OutOfPlace = OutOfPlace
