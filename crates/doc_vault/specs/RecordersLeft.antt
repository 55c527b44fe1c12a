-- What a call leaves of the recorder of its records.
use Rattle.std.specs.Prelude.{◌≡◌, ℕ, List, []}
use Rattle.client_recorder.specs.KeepsOn.{KeepsOn}
use Rattle.sse_outside.specs.Kept.{Kept}

-- records were taken after those of before, and a crash at any moment since leaves the first of them, in order; and unless it refused one,
-- the recorder takes more
pub record LeavesRecorder {R : Type 0} (kept : R → Kept) (moment : R → ℕ) (left_since : R → ℕ → List ℕ → Type 0) (whole : R → Type 0) (old new : R) : Type 0 where
  pub kept_on : KeepsOn kept moment left_since old new
  pub lasts : (kept new).refused ≡ [] → whole new
