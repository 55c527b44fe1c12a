-- Documents as they are kept: an identifier, and numbers into a table of words.
use Rattle.std.specs.Prelude.{ℕ, List, [], map, slice_index_or}
use Rattle.client_registry.specs.Document.{Document}
use Rattle.client_registry.specs.IdNumber.{id_number}
use Rattle.client_registry.specs.declared.numbered.Numbered.{Numbered}

-- the words of these numbers
abbrev pub words_by_number : List (List ℕ) → List ℕ → List (List ℕ)
words_by_number words numbers = map (λ n. slice_index_or words n []) numbers

-- the document, where these are the words by number
abbrev pub document_by : List (List ℕ) → Numbered → Document
document_by words doc = record { id = id_number doc.id; words = words_by_number words doc.numbers.now }
