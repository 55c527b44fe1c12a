-- One connection of a vault: the bytes read, the bytes written, and how it ended.
use Rattle.std.specs.Prelude.{◌≡◌, ◌≢◌, ◌⊎◌, ℕ, List, [], ◌++◌, Option}
use Rattle.std.specs.Io.KnownBytes.{append_known, prepend_known, IsAtEnd}
use Rattle.sse_outside.specs.Fronts.{TookFront}
use Rattle.tcp_service.specs.declared.conn_end.ConnEnd.{ConnEnd}
use Rattle.tcp_service.specs.declared.conn_end.ConnEnd.TheVariants as ends
use Rattle.vault_server.specs.VaultFrames.{VaultFrameText, VaultReplyText, BadFrame, StoreFault, vault_reply_bytes}
use Rattle.vault_server.specs.VaultRecords.{CanTake}
use Rattle.vault_server.specs.VaultState.{VaultState}
use Rattle.vault_served.specs.Fronts.{OutOfRange, Unfinished, front_of}
use Rattle.vault_served.specs.Lasting.{Last}
use Rattle.vault_served.specs.Turns.{Turn, AreTurns, IsBody, acknowledged, frame_of, frames_of, replies_of}

-- an update stands in front that the vault would take, and that its disk kept from being taken
pub record HasFailed (state : VaultState) (rest : List ℕ) : Type 0 where
  pub body : List ℕ
  pub behind : List ℕ
  pub sized : IsBody body
  pub spelled : rest ≡ frame_of body ++ behind
  pub can : CanTake state body

-- the reply that is the last: to the length of no body, or to an update that the disk kept from being taken
abbrev pub IsLast : VaultState → (rest : List ℕ) → VaultReplyText → Type 0
IsLast state rest BadFrame = front_of rest ≡ OutOfRange
IsLast state rest StoreFault = HasFailed state rest
IsLast state rest _ = ⊥

-- a strict prefix of the replies was written, the last one among them
abbrev pub IsCut : (turns : List Turn) → VaultState → (rest : List ℕ) → (written0 written : Option (List ℕ)) → Type 0
IsCut turns state rest written0 written =
    TookFront written0 written (replies_of turns)
    ⊎ ((last : VaultReplyText) × IsLast state rest last × TookFront written0 written (replies_of turns ++ vault_reply_bytes last))

-- what is left of what was read, and what was written, by how the connection ended
abbrev pub Finishes : ConnEnd → (turns : List Turn) → VaultState → (rest : List ℕ) → (left written0 written : Option (List ℕ)) → Type 0
Finishes ends.Closed turns state rest left written0 written =
    (rest ≡ []) × IsAtEnd left × (written ≡ append_known written0 (replies_of turns))
Finishes ends.CutShort turns state rest left written0 written =
    (rest ≢ []) × (front_of rest ≡ Unfinished) × IsAtEnd left × (written ≡ append_known written0 (replies_of turns))
Finishes ends.ReadFault turns state rest left written0 written =
    (front_of rest ≡ Unfinished) × (written ≡ append_known written0 (replies_of turns))
Finishes ends.BadFrame turns state rest left written0 written =
    (front_of rest ≡ OutOfRange) × (written ≡ append_known written0 (replies_of turns ++ vault_reply_bytes BadFrame))
Finishes ends.UnknownOwner turns state rest left written0 written = ⊥
Finishes ends.StoreFault turns state rest left written0 written =
    HasFailed state rest × (written ≡ append_known written0 (replies_of turns ++ vault_reply_bytes StoreFault))
Finishes ends.WriteFault turns state rest left written0 written = IsCut turns state rest written0 written
Finishes ends.OutOfMemory turns state rest left written0 written = IsCut turns state rest written0 written

-- what was read is whole frames, each answered in turn, and the bytes left after them; what was written depends on how it ended;
-- and if updates lasted before it, they and those that were acknowledged last after it
pub record IsConnection (left0 left written0 written : Option (List ℕ)) (lasts0 lasts : List VaultFrameText → Type 0) (before : VaultState) (end : ConnEnd) (after : VaultState) : Type 0 where
  pub turns : List Turn
  pub rest : List ℕ
  pub answered : AreTurns before turns after
  pub read_is : left0 ≡ prepend_known (frames_of turns ++ rest) left
  pub finish : Finishes end turns after rest left written0 written
  pub lasting : Last lasts0 lasts (acknowledged turns)
