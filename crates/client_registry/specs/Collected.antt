-- A contract's view of the documents that are collected for a setup.
use Rattle.std.specs.Prelude.{ℕ, List}
use Rattle.client_registry.specs.Document.{Document}

-- the documents in their order, and the two numbers under which their identifiers and words are hashed
pub record Collected : Type 0 where
  pub documents : List Document
  pub keys : ℕ × ℕ
