-- A document: an identifier and words.
use Rattle.std.specs.Prelude.{ℕ, List}

-- a document: its identifier, and its words in the order in which they were given
pub record Document : Type 0 where
  pub id : ℕ
  pub words : List (List ℕ)
