-- That the joined bytes of a frame or a reply are whole items, so that nothing stands after the last one.
use Rattle.std.specs.Prelude.{◌≡◌, ℕ, ◌+◌, ◌*◌, ◌≤◌, Bool, false, List, length}
use Rattle.sse_frames.specs.declared.frame.Frame.{Frame}
use Rattle.sse_frames.specs.declared.frame.Frame.TheVariants as frames
use Rattle.sse_frames.specs.declared.reply.Reply.{Reply}
use Rattle.sse_frames.specs.declared.reply.Reply.TheVariants as replies

-- so many items of one size
pub record AreItems (size : ℕ) (bytes : List ℕ) : Type 0 where
  pub count : ℕ
  pub whole : length bytes ≡ count * size

-- both lists of an addition
pub record AreAdded (entries numbers : List ℕ) : Type 0 where
  pub whole_entries : AreItems 24 entries
  pub whole_numbers : AreItems 16 numbers

-- a frame's joined bytes are whole items
abbrev pub HasSizes : Frame → Type 0
HasSizes frames.Hello = Unit {0}
HasSizes (frames.SetupBegin q b big m a) = Unit {0}
HasSizes (frames.SetupDict q width entries) = AreItems (16 + width) entries.now
HasSizes (frames.SetupArray q width blocks) = AreItems width blocks.now
HasSizes (frames.SetupEnd q) = Unit {0}
HasSizes (frames.Add q entries numbers) = AreAdded entries.now numbers.now
HasSizes (frames.Delete q numbers) = AreItems 16 numbers.now
HasSizes (frames.Search token) = Unit {0}

-- so many whole identifiers, 8,192 where the page isn't the last
pub record AreIds (last : Bool) (ids : List ℕ) : Type 0 where
  pub count : ℕ
  pub most : count ≤ 8192
  pub whole : length ids ≡ count * 8
  pub full : last ≡ false → count ≡ 8192

-- a reply's joined bytes are whole items
abbrev pub HasReplySizes : Reply → Type 0
HasReplySizes (replies.Page last ids) = AreIds last ids.now
HasReplySizes _ = Unit {0}
