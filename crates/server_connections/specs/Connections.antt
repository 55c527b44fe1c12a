-- The traffic of one connection: the bytes read, the bytes written, and how it ended.
use Rattle.std.specs.Prelude.{◌≡◌, ◌≢◌, ◌⊎◌, ℕ, false, List, [], ◌++◌, Option, Ok, IsErr}
use Rattle.std.specs.Io.KnownBytes.{append_known, prepend_known, IsAtEnd}
use Rattle.keyed_fn.specs.KeyedFn.{KeyedFn}
use Rattle.sse_outside.specs.Fronts.{TookFront}
use Rattle.sse_frames.specs.Frames.{FrameText, frame_bytes}
use Rattle.sse_frames.specs.ReadOutcomes.{frame_outcome}
use Rattle.sse_frames.specs.Replies as replies
use Rattle.sse_frames.specs.Replies.{ReplyText, reply_bytes}
use Rattle.server_core.specs.State.{ServerState}
use Rattle.sse_server.specs.Taken.{IsTaken}
use Rattle.sse_link.specs.BadFrames.{bad_reason}
use Rattle.tcp_service.specs.declared.conn_end.ConnEnd.{ConnEnd}
use Rattle.tcp_service.specs.declared.conn_end.ConnEnd.TheVariants.{Closed, CutShort, ReadFault, WriteFault, OutOfMemory, BadFrame, UnknownOwner, StoreFault}
use Rattle.server_connections.specs.Handled.{Last, Since}
use Rattle.server_connections.specs.Turns.{Turn, AreTurns, frames_of, replies_of, acknowledged}

-- the reply to bytes that begin with no frame: it says why
abbrev pub bad_reply : List ℕ → ReplyText
bad_reply rest = replies.BadFrame (bad_reason (frame_outcome rest))

-- an update frame stands in front that the server would take, and that its disk kept from being taken
pub record HasFailed (state : ServerState) (rest : List ℕ) : Type 0 where
  pub frame : FrameText
  pub behind : List ℕ
  pub spelled : rest ≡ frame_bytes frame ++ behind
  pub taken : IsTaken state frame

-- the reply that is the last: to bytes that begin with no frame, or to an update frame that the disk kept from being taken
abbrev pub IsLast : ServerState → (rest : List ℕ) → ReplyText → Type 0
IsLast state rest (replies.BadFrame reason) = IsErr (frame_outcome rest) × (replies.BadFrame reason ≡ bad_reply rest)
IsLast state rest replies.StoreFault = HasFailed state rest
IsLast state rest _ = ⊥

-- a proper front of the replies was written, the last one among them
abbrev pub IsCut : (turns : List Turn) → ServerState → (rest : List ℕ) → (written0 written : Option (List ℕ)) → Type 0
IsCut turns state rest written0 written =
    TookFront written0 written (replies_of turns)
    ⊎ ((last : ReplyText) × IsLast state rest last × TookFront written0 written (replies_of turns ++ reply_bytes last))

-- what is left of what was read, and what was written, by how the connection ended
abbrev pub Finishes : ConnEnd → (turns : List Turn) → ServerState → (rest : List ℕ) → (left written0 written : Option (List ℕ)) → Type 0
Finishes Closed turns state rest left written0 written =
    (rest ≡ []) × IsAtEnd left × (written ≡ append_known written0 (replies_of turns))
Finishes CutShort turns state rest left written0 written =
    (rest ≢ []) × (frame_outcome rest ≡ Ok false) × IsAtEnd left × (written ≡ append_known written0 (replies_of turns))
Finishes ReadFault turns state rest left written0 written =
    (frame_outcome rest ≡ Ok false) × (written ≡ append_known written0 (replies_of turns))
Finishes BadFrame turns state rest left written0 written =
    IsErr (frame_outcome rest) × (written ≡ append_known written0 (replies_of turns ++ reply_bytes (bad_reply rest)))
Finishes UnknownOwner turns state rest left written0 written = ⊥
Finishes StoreFault turns state rest left written0 written =
    HasFailed state rest × (written ≡ append_known written0 (replies_of turns ++ reply_bytes replies.StoreFault))
Finishes WriteFault turns state rest left written0 written = IsCut turns state rest written0 written
Finishes OutOfMemory turns state rest left written0 written = IsCut turns state rest written0 written

-- what was read is whole frames, each answered in turn, and what is left behind them; what was written goes by how it ended;
-- and where frames lasted before it, they and those that were acknowledged last after it
pub record IsConnection (f : KeyedFn) (left0 left written0 written : Option (List ℕ)) (lasts0 lasts : Since → List FrameText → Type 0) (before : ServerState) (end : ConnEnd) (after : ServerState) : Type 0 where
  pub turns : List Turn
  pub rest : List ℕ
  pub answered : AreTurns f before turns after
  pub read_is : left0 ≡ prepend_known (frames_of turns ++ rest) left
  pub finish : Finishes end turns after rest left written0 written
  pub lasting : Last lasts0 lasts (acknowledged turns)
