-- A contract's view of the pages of a search that came so far.
use Rattle.std.specs.Prelude.{ℕ, List}

-- their identifiers in the order in which they came, how many pages they are, and for how many more identifiers there is
-- memory
pub record Gathered : Type 0 where
  pub ids : List ℕ
  pub pages : ℕ
  pub room : ℕ
