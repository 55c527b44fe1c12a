-- The documents that are live, as the documents of a new setup.
use Rattle.std.specs.Prelude.{◌≡◌, ℕ, List, Option}
use Rattle.client_registry.proofs.LiveOnce.{Rising}
use Rattle.client_registry.specs.Document.{Document}
use Rattle.client_registry.specs.Facts.{words_with_id}

-- these documents are the live ones, each once, by rising identifier: of each identifier they have the words that are known
-- to be live, if any
pub record AreLive (known : ℕ → Option (List (List ℕ))) (docs : List Document) : Type 0 where
  pub rising : Rising docs
  pub same : (id : ℕ) → words_with_id docs id ≡ known id
