-- The files that a crash may leave at each moment of a series of calls on a disk.
use Rattle.std.specs.Prelude.{◌≡◌, ◌⊎◌, ℕ, ◌≤◌, List, Option, IfSome}
use Rattle.sse_outside.specs.Images.{Only}

-- a crash at any moment from the old one on leaves a file that has P: at its beginning, and at what came since
pub record LeavesOnly {D : Type 0} (moment : D → ℕ) (left_since : D → ℕ → List ℕ → Type 0) (old new : D) (P : List ℕ → Type 0) : Type 0 where
  pub begins : (c : List ℕ) → left_since old (moment old) c → P c
  pub later : moment old ≤ moment new
  pub since : (t : ℕ) → t ≤ moment old → (c : List ℕ) → left_since new t c → left_since old t c ⊎ P c

-- a first sync succeeded: from it on each image has P of the file as it read, and up to it each is one that the disk had
pub record HasSynced {D : Type 0} (content : D → Option (List ℕ)) (images : D → List ℕ → Type 0) (moment : D → ℕ) (left_since : D → ℕ → List ℕ → Type 0) (old new : D) (P : List ℕ → List ℕ → Type 0) : Type 0 where
  pub synced : D
  pub reads : content synced ≡ content old
  pub durable : IfSome (content old) (λ bytes. Only bytes (images synced))
  pub before : LeavesOnly moment left_since old synced (images old)
  pub after : IfSome (content old) (λ bytes. LeavesOnly moment left_since synced new (P bytes))
