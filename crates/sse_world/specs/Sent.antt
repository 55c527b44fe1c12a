-- What contracts see of all frames that were ever sent.
use Rattle.std.specs.Prelude.{ℕ, List}

-- their bytes, and for how many more there is room
pub record SentView : Type 0 where
  pub frames : List (List ℕ)
  pub room : ℕ
