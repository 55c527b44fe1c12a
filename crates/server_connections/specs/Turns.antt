-- Frames that a server answers one after another: their bytes, those of the replies, and the states between them.
use Rattle.std.specs.Prelude.{◌≡◌, ◌⊎◌, ℕ, Bool, true, false, List, [], ◌∷◌, flat_map, if◌then◌else◌}
use Rattle.keyed_fn.specs.KeyedFn.{KeyedFn}
use Rattle.sse_frames.specs.Frames.{FrameText, InGrammar, frame_bytes}
use Rattle.sse_frames.specs.Replies.{ReplyText, Took, NoMemory, reply_bytes}
use Rattle.server_core.specs.State.{ServerState}
use Rattle.server_core.specs.Step.{step}
use Rattle.sse_server.specs.Taken.{IsTaken}

-- a frame that was answered, and all replies to it
pub record Turn : Type 0 where
  pub frame : FrameText
  pub replies : List ReplyText

-- the server's step
pub record IsStep (f : KeyedFn) (before : ServerState) (frame : FrameText) (replies : List ReplyText) (after : ServerState) : Type 0 where
  pub state : after ≡ (step f before frame).0
  pub replies_are : replies ≡ (step f before frame).1

-- an update frame that the server would take, for which there was no memory: it said so, and stayed as it was
pub record LacksMemory (before : ServerState) (frame : FrameText) (replies : List ReplyText) (after : ServerState) : Type 0 where
  pub taken : IsTaken before frame
  pub state : after ≡ before
  pub replies_are : replies ≡ NoMemory ∷ []

abbrev pub IsAnswered : KeyedFn → (before : ServerState) → FrameText → List ReplyText → (after : ServerState) → Type 0
IsAnswered f before frame replies after = IsStep f before frame replies after ⊎ LacksMemory before frame replies after

-- a frame of the grammar, and its answer
pub record IsTurn (f : KeyedFn) (before : ServerState) (turn : Turn) (after : ServerState) : Type 0 where
  pub grammar : InGrammar turn.frame
  pub answered : IsAnswered f before turn.frame turn.replies after

-- each frame was answered from the state that the one before left
abbrev pub AreTurns : KeyedFn → (before : ServerState) → List Turn → (after : ServerState) → Type 0
AreTurns f before [] after = after ≡ before
AreTurns f before (turn ∷ turns) after = (mid : ServerState) × IsTurn f before turn mid × AreTurns f mid turns after

-- the bytes of replies, in order
abbrev pub bytes_of : List ReplyText → List ℕ
bytes_of replies = flat_map reply_bytes replies

-- the bytes of the frames
abbrev pub frames_of : List Turn → List ℕ
frames_of turns = flat_map (λ turn. frame_bytes turn.frame) turns

-- the bytes of their replies
abbrev pub replies_of : List Turn → List ℕ
replies_of turns = flat_map (λ turn. bytes_of turn.replies) turns

-- whether these replies acknowledge an update frame
abbrev pub is_acknowledged : List ReplyText → Bool
is_acknowledged (Took q ∷ replies) = true
is_acknowledged _ = false

-- the update frames that were acknowledged
abbrev pub acknowledged : List Turn → List FrameText
acknowledged turns = flat_map (λ turn. if is_acknowledged turn.replies then turn.frame ∷ [] else []) turns
