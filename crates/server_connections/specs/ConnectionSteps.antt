-- The steps of a connection.
use Rattle.std.specs.Prelude.{◌≡◌, ◌≢◌, ◌⊎◌, ℕ, false, List, [], ◌++◌, Option, Result, Ok, Err, MatchResult}
use Rattle.std.specs.Io.KnownBytes.{append_known, prepend_known}
use Rattle.keyed_fn.specs.KeyedFn.{KeyedFn}
use Rattle.sse_frames.specs.Frames.{FrameText, InGrammar, frame_bytes}
use Rattle.sse_frames.specs.ReadOutcomes.{frame_outcome}
use Rattle.sse_frames.specs.Replies.{ReplyText, reply_bytes}
use Rattle.server_core.specs.State.{ServerState}
use Rattle.sse_server.specs.declared.store_answer.StoreAnswer.{StoreAnswer}
use Rattle.sse_server.specs.declared.store_answer.StoreAnswer.TheVariants as answers
use Rattle.sse_server.specs.Answers.{store_replies}
use Rattle.server_connections.specs.declared.front_frame.InFront.{InFront}
use Rattle.server_connections.specs.declared.front_frame.InFront.TheVariants.{Part, Bad, Whole}
use Rattle.tcp_service.specs.declared.conn_end.ConnEnd.{ConnEnd}
use Rattle.tcp_service.specs.declared.conn_end.ConnEnd.TheVariants.{StoreFault}
use Rattle.tcp_service.specs.Disks.{IsSteady}
use Rattle.tcp_service.specs.Writing.{IsUnsaid}
use Rattle.server_connections.specs.Connections.{IsConnection}
use Rattle.server_connections.specs.Handled.{AnswersDisk, IsHandled, Last, Since, taken_by}
use Rattle.server_connections.specs.Turns.{Turn, AreTurns, frames_of, replies_of, bytes_of, acknowledged}

-- what was read and written while these frames were answered; this is held behind them
pub record Progress (f : KeyedFn) (left0 left written0 written : Option (List ℕ)) (lasts0 lasts : Since → List FrameText → Type 0) (before : ServerState) (held : List ℕ) (now : ServerState) : Type 0 where
  pub turns : List Turn
  pub answered : AreTurns f before turns now
  pub read_is : left0 ≡ prepend_known (frames_of turns ++ held) left
  pub written_is : written ≡ append_known written0 (replies_of turns)
  pub lasting : Last lasts0 lasts (acknowledged turns)

-- a step goes on, or ends the connection, from wherever it stood
abbrev pub Goes : {S D : Type 0} → KeyedFn → (state : S → ServerState) (lasts : S → D → Since → List FrameText → Type 0) (left left2 written written2 : Option (List ℕ)) (held held2 : List ℕ)
    → (store store2 : S) (disk disk2 : D) → Result Unit ConnEnd → Type 0
Goes {S} {D} f state lasts left left2 written written2 held held2 store store2 disk disk2 result = (left0 written0 : Option (List ℕ)) (store0 : S) (disk0 : D)
    → Progress f left0 left written0 written (lasts store0 disk0) (lasts store disk) (state store0) held (state store)
    → MatchResult result
    (λ _. Progress f left0 left2 written0 written2 (lasts store0 disk0) (lasts store2 disk2) (state store0) held2 (state store2))
    (λ end. IsConnection f left0 left2 written0 written2 (lasts store0 disk0) (lasts store2 disk2) (state store0) end (state store2))

-- what stood in front of the bytes held, and what the keeper answered
abbrev pub IsFronted : KeyedFn → (held held2 : List ℕ) (lasts lasts2 : Since → List FrameText → Type 0) (now now2 : ServerState) → InFront → (page : List ℕ) → Type 0
IsFronted f held held2 lasts lasts2 now now2 Part page = (frame_outcome held ≡ Ok false) × (held2 ≡ held) × (now2 ≡ now) × Last lasts lasts2 []
IsFronted f held held2 lasts lasts2 now now2 (Bad fault) page = (frame_outcome held ≡ Err fault) × (held2 ≡ held) × (now2 ≡ now) × Last lasts lasts2 []
IsFronted f held held2 lasts lasts2 now now2 (Whole answer) page =
    (frame : FrameText) × InGrammar frame × (held ≡ frame_bytes frame ++ held2) × IsHandled f now frame answer page now2 × Last lasts lasts2 (taken_by frame answer)

-- a fact of the keeper's answer, where there was a frame
abbrev pub IfWhole : InFront → (StoreAnswer → Type 0) → Type 0
IfWhole (Whole answer) P = P answer
IfWhole _ P = Unit {0}

-- the disk, by what stood in front
abbrev pub FrontsDisk : (sound sound2 : Type 0) (faults now : ℕ) → InFront → Type 0
FrontsDisk sound sound2 faults now Part = IsSteady sound sound2 faults now
FrontsDisk sound sound2 faults now (Bad fault) = IsSteady sound sound2 faults now
FrontsDisk sound sound2 faults now (Whole answer) = AnswersDisk sound sound2 faults now answer

-- a reply that is the last was written, and that is the end, or the sink failed
abbrev pub IsSaidLast : (written written2 : Option (List ℕ)) → ReplyText → (last end : ConnEnd) → Type 0
IsSaidLast written written2 reply last end =
    ((end ≡ last) × (written2 ≡ append_known written (reply_bytes reply))) ⊎ IsUnsaid end written written2 (reply_bytes reply)

-- the replies to an answer were written, or the connection ended there
abbrev pub IsReplied : KeyedFn → (written written2 : Option (List ℕ)) → ServerState → StoreAnswer → (page : List ℕ) → Result Unit ConnEnd → Type 0
IsReplied f written written2 state answer page result = MatchResult result
    (λ _. (answer ≢ answers.StoreFault) × (written2 ≡ append_known written (bytes_of (store_replies f state answer page))))
    (λ end. IsUnsaid end written written2 (bytes_of (store_replies f state answer page))
    ⊎ ((answer ≡ answers.StoreFault) × (end ≡ StoreFault) × (written2 ≡ append_known written (bytes_of (store_replies f state answer page)))))
