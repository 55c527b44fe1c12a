-- A contract's view of a word table.
use Rattle.std.specs.Prelude.{◌≡◌, ℕ, List, ◌++◌, map}
use Rattle.client_registry.specs.WordBytes.{word_bytes}
use Rattle.client_registry.specs.declared.word.Word.{Word}

-- the words of a table, each at its number
abbrev pub table_words : List (Word × ℕ) → List (List ℕ)
table_words entries = map (λ e. word_bytes e.0) entries

-- these counts after the others: words that had no number have the next ones, with the count 0
abbrev pub GivesNumbers : List (List ℕ × ℕ) → List (List ℕ × ℕ) → Type 0
GivesNumbers old new = (words : List (List ℕ)) × (new ≡ old ++ map (λ word. (word, 0)) words)
