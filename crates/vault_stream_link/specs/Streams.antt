-- The effects on a link to a vault over a stream.
use Rattle.std.specs.Prelude.{◌≡◌, ◌⊎◌, ℕ, Bool, true, false, List, Option}
use Rattle.std.specs.Io.KnownBytes.{append_known, prepend_known}
use Rattle.sse_outside.specs.Causes.{Rose}
use Rattle.sse_outside.specs.Fronts.{TookFront}
use Rattle.sized_replies.specs.Streams.{IsDry}

-- the frame is all that was written, and this reply is all that was read; the link hadn't lost its place among the replies
pub record Passes (frame reply : List ℕ) (lost : Bool) (written written' left left' : Option (List ℕ)) : Type 0 where
  pub in_place : lost ≡ false
  pub sent : written' ≡ append_known written frame
  pub taken : left ≡ prepend_known reply left'

-- what the stream tells: the bytes written and the counts of the sink, the bytes left and the faults of the source
pub record StreamTold : Type 0 where
  pub written : Option (List ℕ)
  pub sink_faults : ℕ
  pub shortages : ℕ
  pub left : Option (List ℕ)
  pub source_faults : ℕ

-- the sink took nothing of the frame or a proper front, and a count of it rose; the source is untouched
pub record IsUnsent (frame : List ℕ) (before after : StreamTold) : Type 0 where
  pub less : (after.written ≡ before.written) ⊎ TookFront before.written after.written frame
  pub cause : Rose before.sink_faults after.sink_faults ⊎ Rose before.shortages after.shortages
  pub left : after.left ≡ before.left

-- the frame was written, and the source ended or failed before the reply did
pub record HasNoReply (frame : List ℕ) (before after : StreamTold) : Type 0 where
  pub sent : after.written ≡ append_known before.written frame
  pub dry : IsDry after.left before.source_faults after.source_faults

-- why a frame has no reply: the place among the replies was lost before, and nothing was written or read; or the frame wasn't
-- sent; or no reply came
abbrev pub WhyCut : (frame : List ℕ) (lost : Bool) (before after : StreamTold) → Type 0
WhyCut frame lost before after = ((lost ≡ true) × (after ≡ before)) ⊎ (IsUnsent frame before after ⊎ HasNoReply frame before after)

-- the link is cut: its place among the replies is lost, and its count of faults rose
pub record IsLost (lost : Bool) (faults faults' : ℕ) : Type 0 where
  pub is_lost : lost ≡ true
  pub rose : Rose faults faults'
