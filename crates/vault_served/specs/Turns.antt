-- Frames that a vault answers one after another: their bytes, those of the replies, and the states between them.
use Rattle.std.specs.Prelude.{◌≡◌, ◌⊎◌, ℕ, ◌≤◌, List, [], ◌∷◌, ◌++◌, length, flat_map, Result, Ok, Err}
use Rattle.sse_frames.specs.Frames.{be32}
use Rattle.sse_frames.specs.declared.fault.FrameFault.{FrameFault}
use Rattle.vault_server.specs.VaultAnswers.{vault_answered}
use Rattle.vault_server.specs.VaultFrames.{VaultFrameText, VaultReplyText, Took, NoMemory, vault_reply_bytes}
use Rattle.vault_server.specs.VaultReading.{frame_in}
use Rattle.vault_server.specs.VaultRecords.{CanTake}
use Rattle.vault_server.specs.VaultState.{VaultState}

-- the body of a frame that was answered, and the reply
pub record Turn : Type 0 where
  pub body : List ℕ
  pub reply : VaultReplyText

-- a frame: the length of its body, and the body
abbrev pub frame_of : List ℕ → List ℕ
frame_of body = be32 (length body) ++ body

-- a body has 1 to 65,600 bytes, whatever they are
pub record IsBody (body : List ℕ) : Type 0 where
  pub least : 1 ≤ length body
  pub most : length body ≤ 65600

-- the vault's step; to a body that is none of the grammar too
pub record IsStep (before : VaultState) (turn : Turn) (after : VaultState) : Type 0 where
  pub state : after ≡ (vault_answered before turn.body).0
  pub reply_is : turn.reply ≡ (vault_answered before turn.body).1

-- an update that the vault would take, for which there was no memory: it said so, and stayed as it was
pub record LacksMemory (before : VaultState) (turn : Turn) (after : VaultState) : Type 0 where
  pub can : CanTake before turn.body
  pub state : after ≡ before
  pub reply_is : turn.reply ≡ NoMemory

pub record IsTurn (before : VaultState) (turn : Turn) (after : VaultState) : Type 0 where
  pub sized : IsBody turn.body
  pub answered : IsStep before turn after ⊎ LacksMemory before turn after

-- each frame was answered from the state that the one before left
abbrev pub AreTurns : (before : VaultState) → List Turn → (after : VaultState) → Type 0
AreTurns before [] after = after ≡ before
AreTurns before (turn ∷ turns) after = (mid : VaultState) × IsTurn before turn mid × AreTurns mid turns after

-- the bytes of the frames
abbrev pub frames_of : List Turn → List ℕ
frames_of turns = flat_map (λ turn. frame_of turn.body) turns

-- the bytes of their replies
abbrev pub replies_of : List Turn → List ℕ
replies_of turns = flat_map (λ turn. vault_reply_bytes turn.reply) turns

-- the frame that was read, if there is one
abbrev pub frame_list : Result VaultFrameText FrameFault → List VaultFrameText
frame_list (Ok frame) = frame ∷ []
frame_list (Err fault) = []

-- the update that a reply acknowledges
abbrev pub acknowledged_by : (body : List ℕ) → VaultReplyText → List VaultFrameText
acknowledged_by body (Took n) = frame_list (frame_in body)
acknowledged_by body _ = []

-- the updates that were acknowledged
abbrev pub acknowledged : List Turn → List VaultFrameText
acknowledged turns = flat_map (λ turn. acknowledged_by turn.body turn.reply) turns
