-- How far a script is read.
use Rattle.std.specs.Prelude.{ℕ, List}

-- the bytes that were read and not yet given, the line read last, and its number, from 1
pub record Reading : Type 0 where
  pub pending : List ℕ
  pub line : List ℕ
  pub number : ℕ
