-- The words of documents, by first appearance, and which documents are collected.
use Rattle.std.specs.Prelude.{ℕ, ◌+◌, ◌^◌, ◌≤◌, Bool, not, ◌==◌, nat_lt, List, [], ◌∷◌, length, map, filter, flat_map, All, bytes_eq, Option, None, Some, if◌then◌else◌}
use Rattle.std.specs.List.{list_any, IsDistinct}
use Rattle.client_registry.specs.Document.{Document}
use Rattle.client_registry.specs.DocumentRule.{IsDocument}
use Rattle.client_registry.specs.declared.faults.DocsFault.{DocsFault}
use Rattle.client_registry.specs.declared.faults.DocsFault.TheVariants.{AlreadyLive, TooManyDocuments, TooManyPairs}

-- the words of all documents one after another, a word as often as documents hold it
abbrev pub all_words : List Document → List (List ℕ)
all_words docs = flat_map (λ d. d.words) docs

-- the different ones of these words, each at its first place
abbrev pub first_seen : List (List ℕ) → List (List ℕ)
first_seen [] = []
first_seen (word ∷ words) = word ∷ filter (λ other. not (bytes_eq word other)) (first_seen words)

-- the words of the documents by first appearance; the number of a word is its place here
abbrev pub words_of : List Document → List (List ℕ)
words_of docs = first_seen (all_words docs)

-- whether a document holds the word
abbrev pub has_word : List ℕ → Document → Bool
has_word word d = list_any (bytes_eq word) d.words

-- the identifiers of the documents that hold the word, in the order of the documents
abbrev pub ids_with : List Document → List ℕ → List ℕ
ids_with docs word = map (λ d. d.id) (filter (has_word word) docs)

-- how many documents hold each word, by the word's number
abbrev pub list_lengths : List Document → List ℕ
list_lengths docs = map (λ word. length (ids_with docs word)) (words_of docs)

-- whether a document has the identifier
abbrev pub is_live : List Document → ℕ → Bool
is_live docs id = list_any (λ d. id == d.id) docs

-- how many pairs of a word and a document
abbrev pub pairs_of : List Document → ℕ
pairs_of docs = length (all_words docs)

-- why the documents don't take one more: the first of these causes that stands
abbrev pub docs_refusal : List Document → Document → Option DocsFault
docs_refusal docs doc =
    if is_live docs doc.id then Some (AlreadyLive doc.id)
    else if nat_lt (2 ^ 18) (length docs + 1) then Some (TooManyDocuments (length docs + 1))
    else if nat_lt (2 ^ 20) (pairs_of docs + length doc.words) then Some (TooManyPairs (pairs_of docs + length doc.words))
    else None

-- what is so of all documents that were collected
pub record IsCollected (docs : List Document) : Type 0 where
  pub documents : length docs ≤ 2 ^ 18
  pub pairs : pairs_of docs ≤ 2 ^ 20
  pub different : IsDistinct (λ x y. x == y) (map (λ d. d.id) docs)
  pub are_documents : All IsDocument docs
