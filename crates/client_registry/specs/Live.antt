-- The live documents, and the listed pairs of a word and a document.
use Rattle.std.specs.Prelude.{ℕ, Bool, false, not, ◌&&◌, ◌||◌, ◌==◌, nat_le, List, [], ◌∷◌, ◌++◌, length, fold, filter, flat_map, None, Some, if◌then◌else◌}
use Rattle.std.specs.List.{list_any}
use Rattle.client_registry.specs.Command.{Command, Add, Delete, Search}
use Rattle.client_registry.specs.Document.{Document}
use Rattle.client_registry.specs.Documents.{has_word, ids_with}
use Rattle.client_registry.specs.Over.{over}
use Rattle.client_registry.specs.Run.{History, last_run}
use Rattle.client_registry.specs.Setup.{Setup, setup_list}

-- the live documents after one more command
abbrev pub after : List Document → Command → List Document
after docs (Add d) = docs ++ d ∷ []
after docs (Delete id) = filter (λ d. not (d.id == id)) docs
after docs (Search word) = docs

-- the live documents after these commands, in the order in which they became live
abbrev pub live : List Document → List Command → List Document
live docs commands = fold after docs commands

-- whether one of these documents has the identifier and the word
abbrev pub holds_pair : List Document → List ℕ → ℕ → Bool
holds_pair docs word id = list_any (λ d. d.id == id && has_word word d) docs

-- whether a command adds a document with the identifier and the word
abbrev pub adds_pair : List ℕ → ℕ → Command → Bool
adds_pair word id (Add d) = d.id == id && has_word word d
adds_pair word id (Delete other) = false
adds_pair word id (Search other) = false

-- whether the setup or one of these commands has listed the pair of a word and an identifier
abbrev pub is_listed : Setup → List Command → List ℕ → ℕ → Bool
is_listed s past word id = holds_pair s.documents word id || list_any (adds_pair word id) past

-- whether the document of the identifier is live and holds the word
abbrev pub is_live_with : Setup → List Command → List ℕ → ℕ → Bool
is_live_with s past word id = holds_pair (live s.documents past) word id

-- the identifier whose pair with the word a command is the first to list
abbrev pub newly_listed : Setup → List ℕ → List Command → Command → List ℕ
newly_listed s word past (Add d) = if has_word word d && not (is_listed s past word d.id) then d.id ∷ [] else []
newly_listed s word past (Delete id) = []
newly_listed s word past (Search other) = []

-- the identifiers whose pair with the word was first listed by an addition, in the order of the additions
abbrev pub added_list : Setup → List Command → List ℕ → List ℕ
added_list s commands word = flat_map (λ ids. ids) (over (newly_listed s word) [] commands)

-- how many pairs of the word were first listed by an addition, which is the number of the next one
abbrev pub counter : Setup → List Command → List ℕ → ℕ
counter s commands word = length (added_list s commands word)

-- what a search of the word shows: the setup's list, then the added list, without those whose pair is no longer live
abbrev pub shown : Setup → List Command → List ℕ → List ℕ
shown s commands word = filter (is_live_with s commands word) (setup_list s word ++ added_list s commands word)

-- a number among rising numbers
abbrev pub insert_in_order : ℕ → List ℕ → List ℕ
insert_in_order n [] = n ∷ []
insert_in_order n (m ∷ ms) = if nat_le n m then n ∷ m ∷ ms else m ∷ insert_in_order n ms

-- numbers by rising value, repeats included
abbrev pub in_order : List ℕ → List ℕ
in_order [] = []
in_order (n ∷ ns) = insert_in_order n (in_order ns)

-- the identifiers of the live documents with the word, rising
abbrev pub matching_ids : Setup → List Command → List ℕ → List ℕ
matching_ids s commands word = in_order (ids_with (live s.documents commands) word)

-- the same of a history: each epoch begins with the documents that were live before it, so its last one tells
abbrev pub live_of : History → List Document
live_of None = []
live_of (Some es) = live (last_run es).setup.documents (last_run es).later

abbrev pub matching_in : History → List ℕ → List ℕ
matching_in None word = []
matching_in (Some es) word = matching_ids (last_run es).setup (last_run es).later word
