-- Which identifiers a query chooses, from the lists of its words.
use Rattle.std.specs.Prelude.{ℕ, Bool, ◌&&◌, ◌||◌, not, List, [], filter, get_or, nat_eq, Option, None, Some}
use Rattle.std.specs.List.{concat, dedup, list_any}
use Rattle.client_registry.specs.Live.{in_order}
use Rattle.bool_search.specs.Fields.{signs_of}
use Rattle.bool_search.specs.Grammar.{Tree, Word, Within, And, Not, Or}
use Rattle.bool_search.specs.Parsing.{query_of}

-- whether an identifier is chosen, by which words have it
abbrev pub holds : Tree → (ℕ → Bool) → Bool
holds (Word number) has = has number
holds (Within t) has = holds t has
holds (And left right) has = holds left has && holds right has
holds (Not left right) has = holds left has && not (holds right has)
holds (Or left right) has = holds left has || holds right has

-- whether the list of this number has an identifier
abbrev pub has_in : List (List ℕ) → (id : ℕ) → (number : ℕ) → Bool
has_in lists id number = list_any (nat_eq id) (get_or lists number [])

-- the identifiers of all lists, rising, each once
abbrev pub rising : List (List ℕ) → List ℕ
rising lists = dedup nat_eq (in_order (concat lists))

-- those that a query chooses, rising, each once
abbrev pub chosen : Tree → List (List ℕ) → List ℕ
chosen query lists = filter (λ id. holds query (has_in lists id)) (rising lists)

-- those that a query chooses, if there is one
abbrev pub chosen_if : Option Tree → List (List ℕ) → List ℕ
chosen_if None lists = []
chosen_if (Some query) lists = chosen query lists

-- those that the query of these fields chooses
abbrev pub chosen_by : List (List ℕ) → List (List ℕ) → List ℕ
chosen_by fields lists = chosen_if (query_of (signs_of fields)) lists
