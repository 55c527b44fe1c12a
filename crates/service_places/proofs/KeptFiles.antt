-- The file after a start that was refused.
use Rattle.std.proofs.Common.{◌⊎◌, inl, inr, ℕ, ◌≤◌, List}
use Rattle.std.specs.Prelude.{Option}
use Rattle.sse_journal.specs.AnyMoment.{LeavesOnly, HasSynced}
use Rattle.sse_journal.specs.Files.{GivesAs}
use Rattle.sse_journal.proofs.Moments.{each}
use Rattle.service_places.specs.Untouched.{LeavesSame}
use Rattle.service_places.proofs.KnownValues.{if_some}

module _ {D : Type 0} (content : D → Option (List ℕ)) (images : D → List ℕ → Type 0) (moment : D → ℕ) (left_since : D → ℕ → List ℕ → Type 0)
    (counts_now : (disk : D) (t : ℕ) (c : List ℕ) → t ≤ moment disk → images disk c → left_since disk t c) (disk disk2 : D) where
  -- each image since a moment is one that the calls from it on left
  left_now : (from : D) (P : List ℕ → Type 0) → LeavesOnly moment left_since from disk2 P → (bytes : List ℕ) → images disk2 bytes → P bytes
  left_now from P leaves bytes image = each moment left_since from disk2 P leaves bytes (counts_now disk2 (moment from) bytes leaves.later image)

  pub kept_file : {A : Type 0} → HasSynced content images moment left_since disk disk2 GivesAs ⊎ (A × LeavesOnly moment left_since disk disk2 (images disk)) → LeavesSame content images disk disk2
  kept_file (inl synced) = λ bytes image. inr (if_some (content disk) synced.after (λ file leaves. left_now synced.synced (GivesAs file) leaves bytes image))
  kept_file (inr refused) = λ bytes image. inl (left_now disk (images disk) refused.1 bytes image)
