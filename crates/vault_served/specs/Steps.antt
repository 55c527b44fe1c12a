-- The steps of a vault's connection.
use Rattle.std.specs.Prelude.{◌≡◌, ◌≢◌, ◌⊎◌, ℕ, List, [], ◌++◌, Option, Result, MatchResult}
use Rattle.std.specs.Io.KnownBytes.{append_known, prepend_known}
use Rattle.tcp_service.specs.Writing.{IsUnsaid}
use Rattle.tcp_service.specs.Disks.{HasFallen, IsSteady}
use Rattle.tcp_service.specs.declared.conn_end.ConnEnd.{ConnEnd}
use Rattle.tcp_service.specs.declared.conn_end.ConnEnd.TheVariants as ends
use Rattle.vault_server.specs.VaultAnswers.{answer_reply, vault_answered}
use Rattle.vault_server.specs.VaultFrames.{VaultFrameText, VaultReplyText, vault_reply_bytes}
use Rattle.vault_server.specs.VaultRecords.{CanTake}
use Rattle.vault_server.specs.VaultServerView.{VaultServerView}
use Rattle.vault_server.specs.VaultState.{VaultState}
use Rattle.vault_server.specs.VaultTurns.{Answers}
use Rattle.vault_server.specs.declared.vault_answer.VaultAnswer.{VaultAnswer}
use Rattle.vault_server.specs.declared.vault_answer.VaultAnswer.TheVariants as answers
use Rattle.vault_served.specs.declared.front.InFront.{InFront}
use Rattle.vault_served.specs.declared.front.InFront.TheVariants.{Part, Bad, Whole}
use Rattle.vault_served.specs.Connections.{IsConnection}
use Rattle.vault_served.specs.Fronts.{OutOfRange, Unfinished, front_of}
use Rattle.vault_served.specs.Lasting.{Last}
use Rattle.vault_served.specs.Turns.{Turn, AreTurns, IsBody, acknowledged, acknowledged_by, frame_of, frames_of, replies_of}

-- what was read and written while these frames were answered; `held` is what is left after them
pub record Progress (left0 left written0 written : Option (List ℕ)) (lasts0 lasts : List VaultFrameText → Type 0) (before : VaultState) (held : List ℕ) (now : VaultState) : Type 0 where
  pub turns : List Turn
  pub answered : AreTurns before turns now
  pub read_is : left0 ≡ prepend_known (frames_of turns ++ held) left
  pub written_is : written ≡ append_known written0 (replies_of turns)
  pub lasting : Last lasts0 lasts (acknowledged turns)

-- a step continues the connection, or ends it, from any progress
abbrev pub Goes : {D : Type 0} → (lasts : VaultServerView → D → List VaultFrameText → Type 0) (left left2 written written2 : Option (List ℕ)) (held held2 : List ℕ)
    → (server server2 : VaultServerView) (disk disk2 : D) → Result Unit ConnEnd → Type 0
Goes {D} lasts left left2 written written2 held held2 server server2 disk disk2 result = (left0 written0 : Option (List ℕ)) (server0 : VaultServerView) (disk0 : D)
    → Progress left0 left written0 written (lasts server0 disk0) (lasts server disk) server0.state held server.state
    → MatchResult result
    (λ _. Progress left0 left2 written0 written2 (lasts server0 disk0) (lasts server2 disk2) server0.state held2 server2.state)
    (λ end. IsConnection left0 left2 written0 written2 (lasts server0 disk0) (lasts server2 disk2) server0.state end server2.state)

-- what stood in front of the bytes held, and what the vault answered
abbrev pub IsFronted : (held held2 : List ℕ) (lasts lasts2 : List VaultFrameText → Type 0) (now now2 : VaultState) → InFront → Type 0
IsFronted held held2 lasts lasts2 now now2 Part = (front_of held ≡ Unfinished) × (held2 ≡ held) × (now2 ≡ now) × Last lasts lasts2 []
IsFronted held held2 lasts lasts2 now now2 Bad = (front_of held ≡ OutOfRange) × (held2 ≡ held) × (now2 ≡ now) × Last lasts lasts2 []
IsFronted held held2 lasts lasts2 now now2 (Whole answer) =
    (body : List ℕ) × IsBody body × (held ≡ frame_of body ++ held2) × Answers now now2 answer (vault_answered now body) (CanTake now body)
    × Last lasts lasts2 (acknowledged_by body (answer_reply now2 answer))

-- a fact of the vault's answer, if there was a frame
abbrev pub IfWhole : InFront → (VaultAnswer → Type 0) → Type 0
IfWhole (Whole answer) P = P answer
IfWhole Part P = Unit {0}
IfWhole Bad P = Unit {0}

-- the disk, by what was answered to a frame
abbrev pub AnswersDisk : (sound sound2 : Type 0) (faults now : ℕ) → VaultAnswer → Type 0
AnswersDisk sound sound2 faults now answers.StoreFault = HasFallen sound faults now
AnswersDisk sound sound2 faults now (answers.Took n) = IsSteady sound sound2 faults now
AnswersDisk sound sound2 faults now (answers.Holds slot) = IsSteady sound sound2 faults now
AnswersDisk sound sound2 faults now (answers.Next n) = IsSteady sound sound2 faults now
AnswersDisk sound sound2 faults now answers.Clash = IsSteady sound sound2 faults now
AnswersDisk sound sound2 faults now answers.NoMemory = IsSteady sound sound2 faults now
AnswersDisk sound sound2 faults now answers.BadFrame = IsSteady sound sound2 faults now

-- the disk, by what stood in front
abbrev pub FrontsDisk : (sound sound2 : Type 0) (faults now : ℕ) → InFront → Type 0
FrontsDisk sound sound2 faults now Part = IsSteady sound sound2 faults now
FrontsDisk sound sound2 faults now Bad = IsSteady sound sound2 faults now
FrontsDisk sound sound2 faults now (Whole answer) = AnswersDisk sound sound2 faults now answer

-- a reply that is the last was written, and that is the end, or the sink failed
abbrev pub IsSaidLast : (written written2 : Option (List ℕ)) → VaultReplyText → (last end : ConnEnd) → Type 0
IsSaidLast written written2 reply last end =
    ((end ≡ last) × (written2 ≡ append_known written (vault_reply_bytes reply))) ⊎ IsUnsaid end written written2 (vault_reply_bytes reply)

-- the reply to an answer was written, or the connection ended there
abbrev pub IsReplied : (written written2 : Option (List ℕ)) → VaultState → VaultAnswer → Result Unit ConnEnd → Type 0
IsReplied written written2 state answer result = MatchResult result
    (λ _. (answer ≢ answers.StoreFault) × (written2 ≡ append_known written (vault_reply_bytes (answer_reply state answer))))
    (λ end. IsUnsaid end written written2 (vault_reply_bytes (answer_reply state answer))
    ⊎ ((answer ≡ answers.StoreFault) × (end ≡ ends.StoreFault) × (written2 ≡ append_known written (vault_reply_bytes (answer_reply state answer)))))
