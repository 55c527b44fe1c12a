-- How a collected list counts its words. No public clause cites this module.
use Rattle.std.specs.Prelude.{ℕ, ◌+◌, List, [], ◌∷◌, map, fold, bytes_eq, if◌then◌else◌}
use Rattle.client_registry.specs.WordBytes.{word_bytes}
use Rattle.client_registry.specs.declared.word.Word.{Word}

-- the counts with one more for the word, which goes last where it is new
abbrev pub counted_up : List (List ℕ × ℕ) → List ℕ → List (List ℕ × ℕ)
counted_up [] word = (word, 1) ∷ []
counted_up (e ∷ es) word = if bytes_eq word e.0 then (e.0, e.1 + 1) ∷ es else e ∷ counted_up es word

-- how often each of these words stands there, by first appearance
abbrev pub tally : List (List ℕ) → List (List ℕ × ℕ)
tally words = fold counted_up [] words

-- the entries of a map of words, with the words' bytes
abbrev pub counts_of : List (Word × ℕ) → List (List ℕ × ℕ)
counts_of entries = map (λ e. (word_bytes e.0, e.1)) entries
