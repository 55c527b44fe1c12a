-- One frame and its first reply, or none.
use Rattle.std.specs.Prelude.{◌≡◌, ◌⊎◌, ℕ, List, [], ◌∷◌, Option, Some, None}
use Rattle.sse_frames.specs.Replies.{ReplyText, Next}
use Rattle.def_link_events.specs.Events.{Event, Sent, Received}
use Rattle.def_link_events.specs.declared.mark.Mark.{Mark}
use Rattle.sse_script.specs.Shown.{Cause, LinkFault, NoMemory}
use Rattle.def_script_meaning.specs.Exchange.{Told, Adds}

-- these bytes were sent, and this reply to them received
abbrev pub IsAnswered : Told → Told → (frame reply : List ℕ) → Type 0
IsAnswered old new frame reply = (mark : Mark) × Adds old new (Sent frame mark ∷ Received reply ∷ [])

-- a cause that shows in no reply: the link failed, or there was no memory
abbrev pub IsOutside : Cause → Type 0
IsOutside cause = (cause ≡ LinkFault) ⊎ (cause ≡ NoMemory)

-- these bytes were sent or not, and no reply was received, as the link failed or there was no memory
pub record IsUnanswered (old new : Told) (frame : List ℕ) (cause : Cause) : Type 0 where
  pub events : List Event
  pub adds : Adds old new events
  pub most : (events ≡ []) ⊎ ((mark : Mark) × (events ≡ Sent frame mark ∷ []))
  pub outside : IsOutside cause

-- the number of a Next reply
abbrev pub next_number : ReplyText → Option ℕ
next_number (Next q) = Some q
next_number _ = None
