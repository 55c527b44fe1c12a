-- A query of the code, as what it asks: its expression, and the words whose numbers stand in it.
use Rattle.std.specs.Prelude.{ℕ, List, map}
use Rattle.client_registry.specs.WordBytes.{word_bytes}
use Rattle.bool_search.specs.declared.query.Query.{Query}
use Rattle.bool_search.specs.Grammar.{Tree, tree_of}

-- the expression of a query
abbrev pub tree_in : Query → Tree
tree_in query = tree_of query.node

-- its different words, by their numbers
abbrev pub words_in : Query → List (List ℕ)
words_in query = map word_bytes query.words.items
