-- The document of a line.
use Rattle.std.specs.Prelude.{ℕ, List}
use Rattle.client_registry.specs.Document.{Document}

-- of its identifier and its fields, each a word
abbrev pub document : ℕ → List (List ℕ) → Document
document id words = record { id = id; words = words }
