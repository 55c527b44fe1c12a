-- The effects on a link over a stream.
use Rattle.std.specs.Prelude.{◌≡◌, ◌⊎◌, ℕ, Bool, true, false, List, Option}
use Rattle.sse_outside.specs.Causes.{Rose}
use Rattle.sse_outside.specs.Fronts.{TookFront}

-- the link is cut: no reply is due, its place among the replies is lost, and its count of faults rose
pub record IsCut (due lost : Bool) (faults now : ℕ) : Type 0 where
  pub none_due : due ≡ false
  pub is_lost : lost ≡ true
  pub rose : Rose faults now

-- why a frame wasn't sent: a reply was still to be received, the place was lost, or a count of the sink rose
abbrev pub IsUnsent : (due lost : Bool) (faults faults_now shortages shortages_now : ℕ) → Type 0
IsUnsent due lost faults faults_now shortages shortages_now =
    (due ≡ true) ⊎ ((lost ≡ true) ⊎ (Rose faults faults_now ⊎ Rose shortages shortages_now))

-- the sink took nothing of these bytes, or a proper front
abbrev pub TookLess : (old new : Option (List ℕ)) (bytes : List ℕ) → Type 0
TookLess old new bytes = (new ≡ old) ⊎ TookFront old new bytes
