-- Numbers of owners, which rise.
use Rattle.std.specs.Prelude.{ℕ, ◌-◌, ◌<◌, ◌≤◌, List, length, get_or}

-- the number at this place, counted from 0, is the first that isn't above the one before it
pub record IsNotRisingAt (numbers : List ℕ) (place : ℕ) : Type 0 where
  pub after_first : 0 < place
  pub inside : place < length numbers
  pub not_above : get_or numbers place 0 ≤ get_or numbers (place - 1) 0
  pub first : (k : ℕ) → 0 < k → k < place → get_or numbers (k - 1) 0 < get_or numbers k 0
