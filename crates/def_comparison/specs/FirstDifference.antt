-- The first place where two lists differ.
use Rattle.std.specs.Prelude.{◌≡◌, ◌≢◌, ℕ, List, take, slice_get}

-- two lists differ first at place k, counted from 0: all before it is the same, and at it are two different items, or an item in one list alone
pub record IsFirstDifference {A : Type 0} (k : ℕ) (left right : List A) : Type 0 where
  pub before : take k left ≡ take k right
  pub there : slice_get left k ≢ slice_get right k
