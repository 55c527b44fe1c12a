-- How many documents and pairs were counted. No public clause cites this module.
use Rattle.std.specs.Prelude.{◌≡◌, ◌*◌, ◌^◌, ◌≤◌, List, length}
use Rattle.client_registry.specs.Document.{Document}
use Rattle.client_registry.specs.Documents.{pairs_of}
use Rattle.client_live_docs.specs.declared.counted.Counted.{Counted}

-- the documents are counted, and their pairs if a setup takes so many documents
pub record Counts (counted : Counted) (docs : List Document) : Type 0 where
  pub documents : counted.documents ≡ length docs
  pub pairs : length docs ≤ 2 ^ 18 → counted.pairs ≡ pairs_of docs
  pub few : counted.pairs ≤ 4096 * counted.documents
