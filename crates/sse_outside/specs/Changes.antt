-- A disk in memory as the record of its calls: the result of a read and the files that a crash may leave, after each of them.
use Rattle.std.specs.Prelude.{◌≡◌, ℕ, ◌≤◌, List, [], ◌∷◌, length, take}
use Rattle.sse_outside.specs.Images.{overwritten, Torn, Shortened}

-- a call that changed the file, or failed in that; a sync that succeeded
pub data Change : Type 0 where
  Wrote : (at : ℕ) (bytes : List ℕ) → Change
  FailedToWrite : (at : ℕ) (bytes : List ℕ) → Change
  CutTo : (len : ℕ) → Change
  FailedToCut : (len : ℕ) → Change
  Synced : Change

-- the file as it reads after a call: a call that failed leaves it
abbrev pub behind : Change → List ℕ → List ℕ
behind (Wrote at bytes) file = overwritten at bytes file
behind (FailedToWrite at bytes) file = file
behind (CutTo len) file = take len file
behind (FailedToCut len) file = file
behind Synced file = file

abbrev pub file_behind : List ℕ → List Change → List ℕ
file_behind file [] = file
file_behind file (change ∷ changes) = file_behind (behind change file) changes

-- what a stop after a call may leave, from what it might have left before
abbrev pub left_behind : Change → List ℕ → (List ℕ → Type 0) → List ℕ → Type 0
left_behind (Wrote at bytes) file images c = (d : List ℕ) × images d × Torn at (length bytes) d c
left_behind (FailedToWrite at bytes) file images c = (d : List ℕ) × images d × Torn at (length bytes) d c
left_behind (CutTo len) file images c = (d : List ℕ) × images d × Shortened len d c
left_behind (FailedToCut len) file images c = (d : List ℕ) × images d × Shortened len d c
left_behind Synced file images c = c ≡ file

abbrev pub IsLeft : List ℕ → (List ℕ → Type 0) → List Change → List ℕ → Type 0
IsLeft file images [] c = images c
IsLeft file images (change ∷ changes) c = IsLeft (behind change file) (left_behind change file images) changes c

-- a disk that began with this file, all of it durable, and these calls made since
abbrev pub IsImage : List ℕ → List Change → List ℕ → Type 0
IsImage first changes c = IsLeft first (λ d. d ≡ first) changes c

-- what a stop might have left at some moment since the t-th call
pub record WasLeft (first : List ℕ) (changes : List Change) (t : ℕ) (c : List ℕ) : Type 0 where
  pub k : ℕ
  pub since : t ≤ k
  pub within : k ≤ length changes
  pub image : IsImage first (take k changes) c
