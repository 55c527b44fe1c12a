-- The meaning of the fields of the collected documents.
use Rattle.std.specs.Prelude.{◌≡◌, ◌<◌, ℕ, List, All, Some, length, map}
use Rattle.indexmap.specs.IndexMap.{hasher_of}
use Rattle.client_registry.specs.Collected.{Collected}
use Rattle.client_registry.specs.Document.{Document}
use Rattle.client_registry.specs.Documents.{all_words, pairs_of, IsCollected}
use Rattle.client_registry.specs.HashNumbers.{hash_numbers}
use Rattle.client_registry.specs.IdNumber.{id_number}
use Rattle.client_registry.specs.Numbered.{words_by_number}
use Rattle.client_registry.specs.Tally.{tally, counts_of}
use Rattle.client_registry.specs.WordTable.{table_words}
use Rattle.client_registry.specs.declared.collected.Docs.TheInside.{Inside}
use Rattle.client_registry.specs.declared.doc_id.DocId.{DocId}
use Rattle.client_registry.specs.declared.listed.Listed.{Listed}

-- a document that is kept under its identifier
abbrev pub kept_document : List (List ℕ) → DocId × Listed → Document
kept_document words e = record { id = id_number e.0; words = words_by_number words e.1.numbers.items }

-- the documents that are kept
abbrev pub documents_of : Inside → List Document
documents_of docs = map (kept_document (table_words docs.words.entries)) docs.documents.entries

-- what contracts see of the collected documents
abbrev pub collected_of : Inside → Collected
collected_of docs = record { documents = documents_of docs; keys = hash_numbers (hasher_of docs.words) }

-- the numbers lie in the table, all of them live, the table and its counts are the documents' own, and identifiers are
-- hashed as words are
pub record IsIndexed (docs : Inside) : Type 0 where
  pub numbered : All (λ e. All (λ n. n < length docs.words.entries) e.1.numbers.items) docs.documents.entries
  pub whole : All (λ e. e.1.live ≡ Some (length e.1.numbers.items)) docs.documents.entries
  pub counts : counts_of docs.words.entries ≡ tally (all_words (documents_of docs))
  pub pairs : docs.pairs ≡ pairs_of (documents_of docs)
  pub collected : IsCollected (documents_of docs)
  pub hashers : hasher_of docs.documents ≡ hasher_of docs.words
