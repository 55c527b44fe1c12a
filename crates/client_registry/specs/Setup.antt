-- A setup, and the lists of its words.
use Rattle.std.specs.Prelude.{ℕ, List}
use Rattle.two_level.specs.Shape.{Shape}
use Rattle.client_registry.specs.Document.{Document}
use Rattle.client_registry.specs.Documents.{words_of, ids_with}

-- a setup: the documents in their order, the shape of the index, and the number Q up to a multiple of which its words and its
-- blocks are filled with dummies, so that their exact numbers don't show
pub record Setup : Type 0 where
  pub documents : List Document
  pub shape : Shape
  pub pad : ℕ

-- the setup of these documents with b numbers in a cell and big numbers in a block, filled up to multiples of pad
abbrev pub setup_with : List Document → (b big pad : ℕ) → Setup
setup_with docs b big pad = record { documents = docs; shape = record { b = b; big = big }; pad = pad }

-- the same with no dummies
abbrev pub setup_of : List Document → ℕ → ℕ → Setup
setup_of docs b big = setup_with docs b big 1

-- the words of the setup by first appearance; the number of a word is its place here
abbrev pub setup_words : Setup → List (List ℕ)
setup_words s = words_of s.documents

-- the identifiers of the setup's documents that hold the word, in the order of the documents
abbrev pub setup_list : Setup → List ℕ → List ℕ
setup_list s word = ids_with s.documents word
