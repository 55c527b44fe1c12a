-- The first place of something among the commands of a run: a search of a word, or the revocation number of a pair.
use Rattle.std.specs.Prelude.{ℕ, suc, ◌+◌, Bool, true, false, List, [], ◌∷◌, bytes_eq, Option, None, Some, option_map, if◌then◌else◌}
use Rattle.client_registry.specs.Command.{Command, Add, Delete, Search}
use Rattle.client_registry.specs.Live.{live}
use Rattle.client_registry.specs.Over.{over}
use Rattle.client_registry.specs.Run.{Offsets}
use Rattle.client_registry.specs.Setup.{Setup}
use Rattle.sse_model.specs.Drawn.{sends_number, searches_for}
use Rattle.sse_model.specs.Wire.{words_live}
use Rattle.sse_simulator.specs.Leaks.{Origin}

abbrev pub origin : ℕ → ℕ → Origin
origin command place = record { command = command; place = place }

-- the first place that is there, the places being of commands from this number on
abbrev pub first_place : ℕ → List (Option ℕ) → Option Origin
first_place k [] = None
first_place k (None ∷ places) = first_place (k + 1) places
first_place k (Some place ∷ places) = Some (origin k place)

-- the first of these commands after a setup for which `place` has a place
abbrev pub earliest : Offsets → (place : List Command → Command → Option ℕ) → List Command → Option Origin
earliest o place past = first_place (o.command + 1) (over place [] past)

-- the words of an update, in their given order
abbrev pub update_words : Setup → List Command → Command → List (List ℕ)
update_words s past (Add d) = d.words
update_words s past (Delete id) = words_live (live s.documents past) id
update_words s past (Search word) = []

-- the first place of a word among these
abbrev pub place_of : List ℕ → List (List ℕ) → ℕ
place_of word [] = 0
place_of word (other ∷ words) = if bytes_eq word other then 0 else suc (place_of word words)

-- the place of a word among these where a command passes a test
abbrev pub place_where : Bool → List ℕ → List (List ℕ) → Option ℕ
place_where true word words = Some (place_of word words)
place_where false word words = None

-- where the revocation number of a pair was first sent
abbrev pub number_origin : Offsets → Setup → List Command → List ℕ → ℕ → Option Origin
number_origin o s past word id =
    earliest o (λ before c. place_where (sends_number s word id before c) word (update_words s before c)) past

-- a search of the word stands at its command's place 0
abbrev pub searched_at : List ℕ → List Command → Command → Option ℕ
searched_at word before c = if searches_for word c then Some 0 else None

-- the first search of a word
abbrev pub first_search : Offsets → List Command → List ℕ → Option ℕ
first_search o past word = option_map (λ first. first.command) (earliest o (searched_at word) past)
