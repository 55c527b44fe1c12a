-- The answers of the readers: the first fault from the left, or the frame or reply that has these bytes.
use Rattle.std.specs.Prelude.{◌≡◌, ℕ, ◌+◌, ◌-◌, ◌≤◌, Bool, true, false, ◌||◌, List, ◌++◌, length, take, drop, Option, Some, None, Result, Ok, Err, nat_lt, is_some, ◌==◌, if◌then◌else◌, slice_index, ⊤}
use Rattle.std.specs.Int.{w32}
use Rattle.std.specs.Borrow.{Bor}
use Rattle.sse_frames.specs.declared.fault.FrameFault.{FrameFault}
use Rattle.sse_frames.specs.declared.fault.FrameFault.TheVariants.{BadLength, BadKind}
use Rattle.sse_frames.specs.declared.frame.Frame.{Frame}
use Rattle.sse_frames.specs.declared.reply.Reply.{Reply}
use Rattle.sse_frames.specs.Replies.{ReplyText, InReplies, reply_body, reply_bytes}
use Rattle.sse_frames.specs.Frames.{be32, InGrammar, body_of, frame_bytes}
use Rattle.sse_frames.specs.FrameViews.{frame_view, reply_view}
use Rattle.sse_frames.specs.Sizes.{HasSizes, HasReplySizes}
use Rattle.sse_frames.specs.Fields.{Field, number_at, first_fault}
use Rattle.sse_frames.specs.Tables.{frame_fields, reply_fields}

-- what is wrong with a body: its kind, or its first field that doesn't stand
abbrev pub fault_in : Option (List Field) → List ℕ → Option FrameFault
fault_in None body = Some (BadKind (slice_index body 0))
fault_in (Some fields) body = first_fault fields body

-- a body has at least its kind byte, and at most so many bytes as its limit says
abbrev pub is_bad_length : (limit n : ℕ) → Bool
is_bad_length limit n = (n == 0) || nat_lt limit n

-- what is wrong with the bytes of a whole body
abbrev pub body_fault : (limit : ℕ) → (List ℕ → Option (List Field)) → List ℕ → Option FrameFault
body_fault limit fields_of body =
    if is_bad_length limit (length body) then Some (BadLength (length body)) else fault_in (fields_of body) body

-- the body in front of the bytes, by the length before it; none where it isn't whole yet
abbrev pub front : (limit : ℕ) → List ℕ → Result (Option (List ℕ)) FrameFault
front limit bytes =
    if nat_lt (length bytes) 4 then Ok None
    else if is_bad_length limit (number_at w32 0 bytes) then Err (BadLength (number_at w32 0 bytes))
    else if nat_lt (length bytes - 4) (number_at w32 0 bytes) then Ok None
    else Ok (Some (take (number_at w32 0 bytes) (drop 4 bytes)))

-- the body stands after its length in front of the bytes
pub record IsBehind (bytes body : List ℕ) : Type 0 where
  pub some : 1 ≤ length body
  pub inside : 4 + length body ≤ length bytes
  pub spelled : take (4 + length body) bytes ≡ be32 (length body) ++ body

-- what a reader of the front answered
abbrev pub seen_front : Result (Option (Bor (List ℕ))) FrameFault → Result (Option (List ℕ)) FrameFault
seen_front (Ok None) = Ok None
seen_front (Ok (Some body)) = Ok (Some body.now)
seen_front (Err fault) = Err fault

-- whether a whole one stands in front of the bytes, or which fault is the first
abbrev pub or_fault : Option FrameFault → Result Bool FrameFault
or_fault None = Ok true
or_fault (Some fault) = Err fault

-- the same by what stands in front
abbrev pub outcome : (List ℕ → Option (List Field)) → Result (Option (List ℕ)) FrameFault → Result Bool FrameFault
outcome fields_of (Err fault) = Err fault
outcome fields_of (Ok None) = Ok false
outcome fields_of (Ok (Some body)) = or_fault (fault_in (fields_of body) body)

-- what reading a frame answers, without the value
abbrev pub frame_outcome : List ℕ → Result Bool FrameFault
frame_outcome bytes = outcome frame_fields (front 0x100000 bytes)

-- what reading a reply answers, without the value
abbrev pub reply_outcome : List ℕ → Result Bool FrameFault
reply_outcome bytes = outcome reply_fields (front 65540 bytes)

-- what was answered, without the value
abbrev pub answered : {T : Type 0} → Result (Option T) FrameFault → Result Bool FrameFault
answered (Ok found) = Ok (is_some found)
answered (Err fault) = Err fault

-- a fact of what was read and of how many bytes it has
abbrev pub IfRead : {T : Type 0} → Result (Option (T × ℕ)) FrameFault → (T → ℕ → Type 0) → Type 0
IfRead (Ok (Some found)) P = P found.0 found.1
IfRead (Ok None) P = ⊤
IfRead (Err fault) P = ⊤

-- something was read, and this holds of it
abbrev pub IsRead : {T : Type 0} → Result (Option (T × ℕ)) FrameFault → (T → ℕ → Type 0) → Type 0
IsRead (Ok (Some found)) P = P found.0 found.1
IsRead (Ok None) P = ⊥
IsRead (Err fault) P = ⊥

-- the frame of a body
pub record IsFrameOf (frame : Frame) (body : List ℕ) : Type 0 where
  pub grammar : InGrammar (frame_view frame)
  pub spelled : body ≡ body_of (frame_view frame)
  pub sizes : HasSizes frame

-- the frame that so many bytes in front are
pub record IsFront (frame : Frame) (n : ℕ) (bytes : List ℕ) : Type 0 where
  pub grammar : InGrammar (frame_view frame)
  pub spelled : take n bytes ≡ frame_bytes (frame_view frame)
  pub sizes : HasSizes frame
  pub some : 5 ≤ n
  pub inside : n ≤ length bytes

-- the reply of a body
pub record IsReplyOf (reply : Reply) (body : List ℕ) : Type 0 where
  pub grammar : InReplies (reply_view reply)
  pub spelled : body ≡ reply_body (reply_view reply)
  pub sizes : HasReplySizes reply

-- the reply that so many bytes in front are
pub record IsReplyFront (reply : Reply) (n : ℕ) (bytes : List ℕ) : Type 0 where
  pub grammar : InReplies (reply_view reply)
  pub spelled : take n bytes ≡ reply_bytes (reply_view reply)
  pub sizes : HasReplySizes reply
  pub some : 5 ≤ n
  pub inside : n ≤ length bytes

-- all of these bytes are this reply of the grammar
pub record IsReply (text : ReplyText) (bytes : List ℕ) : Type 0 where
  pub grammar : InReplies text
  pub spelled : bytes ≡ reply_bytes text
