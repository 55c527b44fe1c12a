-- Leakages of small histories, computed.
use Rattle.std.proofs.Common.{◌≡◌, ℕ, Bool, true, false, List, [], ◌∷◌, map, refl, Some, None}
use Rattle.std.specs.Prelude.{Option}
use Rattle.client_registry.specs.Command.{Command, Add, Delete, Search}
use Rattle.client_registry.specs.Document.{Document}
use Rattle.client_registry.specs.Run.{Run, at_first}
use Rattle.client_registry.specs.Setup.{setup_of}
use Rattle.def_leakage.specs.DrawnValues.{names_in, drawings}
use Rattle.def_leakage.specs.Firsts.{origin}
use Rattle.def_leakage.specs.CommandLeaks.{leak}
use Rattle.sse_model.specs.Names.{name, Token, ListLabel, ListPad, PlusLabel, PlusPad, Revocation}
use Rattle.sse_simulator.specs.Leaks.{Origin, NewEntry, Fresh, Again, ListedLeak, SetupLeak, AddLeak, DeleteLeak, SearchLeak}

abbrev doc : ℕ → List (List ℕ) → Document
doc id words = record { id = id; words = words }

abbrev a : List ℕ
a = 0x61 ∷ []

abbrev b : List ℕ
b = 0x62 ∷ []

abbrev c : List ℕ
c = 0x63 ∷ []

abbrev run_of : List Document → ℕ → ℕ → List Command → Run
run_of docs small big later = record { setup = setup_of docs small big; later = later }

abbrev listed : ℕ → Origin → Option Origin → Bool → ListedLeak
listed id from number revoked = record { id = id; origin = from; number = number; revoked = revoked }

-- one document, two searches of its word, an addition with it
searched_twice : leak at_first (run_of (doc 1 (a ∷ []) ∷ []) 1 1 (Search a ∷ Search a ∷ Add (doc 2 (a ∷ [])) ∷ []))
    ≡ SetupLeak (record { b = 1; big = 1 }) 1 0
    ∷ SearchLeak None (Some (record { entry = 0; blocks = [] })) (listed 1 (origin 0 0) None false ∷ []) (1 ∷ [])
    ∷ SearchLeak (Some 1) (Some (record { entry = 0; blocks = [] })) (listed 1 (origin 0 0) None false ∷ []) (1 ∷ [])
    ∷ AddLeak (record { sent = NewEntry; seen = Some (record { search = 1; id = 2 }) } ∷ [])
    ∷ []
searched_twice = refl

-- a document deleted and added again, with a word more; then the search of its word
added_again : leak at_first (run_of (doc 1 (a ∷ []) ∷ doc 2 (a ∷ []) ∷ []) 1 2 (Delete 1 ∷ Add (doc 1 (c ∷ a ∷ [])) ∷ Search a ∷ []))
    ≡ SetupLeak (record { b = 1; big = 2 }) 1 1
    ∷ DeleteLeak (record { sent = Fresh; seen = None } ∷ [])
    ∷ AddLeak (record { sent = NewEntry; seen = None } ∷ record { sent = Again (origin 1 0); seen = None } ∷ [])
    ∷ SearchLeak None (Some (record { entry = 0; blocks = 0 ∷ [] })) (listed 1 (origin 0 0) (Some (origin 1 0)) false ∷ listed 2 (origin 0 1) None false ∷ []) (1 ∷ 2 ∷ [])
    ∷ []
added_again = refl

-- Q isn't leaked: four words without dummies show as much as one with three
abbrev with_pad : ℕ → List Document → Run
with_pad q docs = record { setup = record (setup_of docs 2 2) { pad = q }; later = Search (0x7a ∷ []) ∷ [] }

four_words : leak at_first (with_pad 1 (doc 1 (a ∷ b ∷ c ∷ (0x64 ∷ []) ∷ []) ∷ [])) ≡ SetupLeak (record { b = 2; big = 2 }) 4 0 ∷ SearchLeak None None [] [] ∷ []
four_words = refl

four_with_dummies : leak at_first (with_pad 4 (doc 6 (b ∷ []) ∷ [])) ≡ leak at_first (with_pad 1 (doc 1 (a ∷ b ∷ c ∷ (0x64 ∷ []) ∷ []) ∷ []))
four_with_dummies = refl

-- a list of 2 takes a block, one of 3 two blocks and one of pointers; those of a word stand after those of the words before it; a search of a word that is nowhere
blocks_of_two_words : leak at_first (run_of (doc 1 (a ∷ b ∷ []) ∷ doc 2 (b ∷ a ∷ []) ∷ doc 3 (b ∷ []) ∷ []) 1 2 (Search b ∷ Search a ∷ Search c ∷ []))
    ≡ SetupLeak (record { b = 1; big = 2 }) 2 4
    ∷ SearchLeak None (Some (record { entry = 1; blocks = 1 ∷ 2 ∷ 3 ∷ [] })) (listed 1 (origin 0 0) None false ∷ listed 2 (origin 0 1) None false ∷ listed 3 (origin 0 2) None false ∷ []) (1 ∷ 2 ∷ 3 ∷ [])
    ∷ SearchLeak None (Some (record { entry = 0; blocks = 0 ∷ [] })) (listed 1 (origin 0 0) None false ∷ listed 2 (origin 0 1) None false ∷ []) (1 ∷ 2 ∷ [])
    ∷ SearchLeak None None [] []
    ∷ []
blocks_of_two_words = refl

-- after its search a word is seen in a deletion, and in the addition of the same document, which sends the number again; what a
-- deletion revoked is listed and not found
seen_when_deleted_and_added : leak at_first (run_of (doc 7 (a ∷ b ∷ []) ∷ []) 1 1 (Search b ∷ Delete 7 ∷ Search b ∷ Add (doc 7 (b ∷ [])) ∷ Delete 7 ∷ []))
    ≡ SetupLeak (record { b = 1; big = 1 }) 2 0
    ∷ SearchLeak None (Some (record { entry = 1; blocks = [] })) (listed 7 (origin 0 0) None false ∷ []) (7 ∷ [])
    ∷ DeleteLeak (record { sent = Fresh; seen = None } ∷ record { sent = Fresh; seen = Some (record { search = 1; id = 7 }) } ∷ [])
    ∷ SearchLeak (Some 1) (Some (record { entry = 1; blocks = [] })) (listed 7 (origin 0 0) (Some (origin 2 1)) true ∷ []) []
    ∷ AddLeak (record { sent = Again (origin 2 1); seen = Some (record { search = 1; id = 7 }) } ∷ [])
    ∷ DeleteLeak (record { sent = Again (origin 2 1); seen = Some (record { search = 1; id = 7 }) } ∷ [])
    ∷ []
seen_when_deleted_and_added = refl

-- a number is drawn for the first deletion alone, a token for the first search; entries and blocks have labels and pads of their own
drawn_for_the_first_time : map (map names_in) (drawings at_first (run_of (doc 7 (a ∷ []) ∷ []) 1 1 (Search a ∷ Delete 7 ∷ Search a ∷ Add (doc 7 (a ∷ b ∷ [])) ∷ Delete 7 ∷ [])))
    ≡ ((name 0 a ListLabel 0 ∷ name 0 a ListPad 0 ∷ []) ∷ [])
    ∷ ((name 0 a Token 0 ∷ []) ∷ [])
    ∷ ((name 0 a Revocation 7 ∷ []) ∷ [])
    ∷ []
    ∷ ((name 0 b PlusLabel 0 ∷ name 0 b PlusPad 0 ∷ []) ∷ [])
    ∷ ((name 0 b Revocation 7 ∷ []) ∷ [])
    ∷ []
drawn_for_the_first_time = refl
