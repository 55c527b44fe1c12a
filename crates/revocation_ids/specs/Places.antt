-- The words of a document by their numbers, and by whether their pair with an identifier is listed.
use Rattle.std.specs.Prelude.{ℕ, ◌+◌, List, [], ◌∷◌, filter, not, slice_index_or}
use Rattle.client_registry.specs.Registered.{Registered, facts, known_words}
use Rattle.revocation_ids.specs.declared.numbered_word.NumberedWord.{NumberedWord}

-- these numbers, each at its position, the first at i
abbrev pub places_from : ℕ → List ℕ → List NumberedWord
places_from i [] = []
places_from i (n ∷ ns) = record { position = i; number = n } ∷ places_from (i + 1) ns

-- the word at a place
abbrev pub word_at : Registered → NumberedWord → List ℕ
word_at r place = slice_index_or (known_words r) place.number []

-- those whose pair with the identifier isn't listed, in their order
abbrev pub fresh_places : Registered → (id : ℕ) → List ℕ → List NumberedWord
fresh_places r id numbers = filter (λ place. not ((facts r).listed (word_at r place) id)) (places_from 0 numbers)

-- those whose pair is
abbrev pub listed_places : Registered → (id : ℕ) → List ℕ → List NumberedWord
listed_places r id numbers = filter (λ place. (facts r).listed (word_at r place) id) (places_from 0 numbers)
