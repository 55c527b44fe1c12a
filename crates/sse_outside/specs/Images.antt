-- The files that a crash may leave (docs/DISKS.md).
use Rattle.std.specs.Prelude.{◌≡◌, ◌⊎◌, ℕ, ◌+◌, ◌<◌, ◌≤◌, min, max, List, ◌++◌, length, take, drop, get_or}

-- the file with these bytes at this place
abbrev pub overwritten : (at : ℕ) (bytes file : List ℕ) → List ℕ
overwritten at bytes file = take at file ++ bytes ++ drop (at + length bytes) file

-- after a write of n bytes at a place: any bytes in that range and after the old end, the same elsewhere, and a length
-- between
pub record Torn (at n : ℕ) (old new : List ℕ) : Type 0 where
  pub no_shorter : length old ≤ length new
  pub no_longer : length new ≤ max (length old) (at + n)
  pub same : (i : ℕ) → i < length old → (i < at) ⊎ (at + n ≤ i) → get_or new i 0 ≡ get_or old i 0

-- after a cut to n bytes: a length between, any bytes in what was cut, the same before it
pub record Shortened (n : ℕ) (old new : List ℕ) : Type 0 where
  pub no_shorter : min n (length old) ≤ length new
  pub no_longer : length new ≤ length old
  pub same : (i : ℕ) → i < n → i < length new → get_or new i 0 ≡ get_or old i 0

-- each image after a call comes from one before it by this step
abbrev pub Follows : (step : List ℕ → List ℕ → Type 0) (old new : List ℕ → Type 0) → Type 0
Follows step old new = (c : List ℕ) → new c → (d : List ℕ) × old d × step d c

-- no image but those before
abbrev pub NoOther : (old new : List ℕ → Type 0) → Type 0
NoOther old new = (c : List ℕ) → new c → old c

-- this file is the one image
abbrev pub Only : (file : List ℕ) (images : List ℕ → Type 0) → Type 0
Only file images = (c : List ℕ) → images c → c ≡ file

-- time goes on over a call: what a crash may have left since an earlier moment is what it may have left before the call,
-- or an image after it; and nothing of that is forgotten
pub record Elapses (before now : ℕ) (past since : ℕ → List ℕ → Type 0) (images : List ℕ → Type 0) : Type 0 where
  pub later : before ≤ now
  pub nothing_else : (t : ℕ) (c : List ℕ) → t ≤ before → since t c → past t c ⊎ images c
  pub keeps : (t : ℕ) (c : List ℕ) → t ≤ before → past t c → since t c
