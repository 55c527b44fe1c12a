-- The lists of all words in one flat list, by word number.
use Rattle.std.specs.Prelude.{◌≡◌, ℕ, ◌+◌, List, [], ◌∷◌, ◌++◌, length, map}
use Rattle.list_packing.specs.Parts.{filled}
use Rattle.client_registry.specs.Document.{Document}
use Rattle.client_registry.specs.Documents.{ids_with, words_of}

-- for each word of all documents the identifiers of those among these that hold it
abbrev pub lists_among : List Document → List Document → List (List ℕ)
lists_among docs among = map (ids_with among) (words_of docs)

-- where lists of these lengths begin, the first at place a
abbrev pub starts_from : ℕ → List ℕ → List ℕ
starts_from a [] = []
starts_from a (n ∷ ns) = a ∷ starts_from (a + n) ns

-- lists that are to have these lengths, each filled up with zeros, one after the other
abbrev pub filled_lists : List ℕ → List (List ℕ) → List ℕ
filled_lists [] lists = []
filled_lists (n ∷ ns) [] = []
filled_lists (n ∷ ns) (list ∷ lists) = filled n list ++ filled_lists ns lists

-- where each of them goes on, the first beginning at place a
abbrev pub next_from : ℕ → List ℕ → List (List ℕ) → List ℕ
next_from a [] lists = []
next_from a (n ∷ ns) [] = []
next_from a (n ∷ ns) (list ∷ lists) = (a + length list) ∷ next_from (a + n) ns lists

-- a flat list holds what these lists have so far, and places where they go on
pub record HoldsLists (lengths : List ℕ) (lists : List (List ℕ)) (ids next : List ℕ) : Type 0 where
  pub ids_are : ids ≡ filled_lists lengths lists
  pub next_are : next ≡ next_from 0 lengths lists
