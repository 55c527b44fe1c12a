-- The names that a run draws, command by command and repeats included, and those that a server looks up.
use Rattle.std.specs.Prelude.{◌≡◌, ℕ, ◌+◌, Bool, true, false, not, ◌&&◌, ◌==◌, List, [], ◌∷◌, ◌++◌, map, filter, flat_map, bytes_eq, Contains, if◌then◌else◌}
use Rattle.std.specs.List.{list_any, range_with_len}
use Rattle.client_registry.specs.Documents.{has_word}
use Rattle.client_registry.specs.Setup.{Setup, setup_list}
use Rattle.client_registry.specs.Command.{Command, Add, Delete, Search}
use Rattle.client_registry.specs.Run.{Run, Offsets}
use Rattle.client_registry.specs.Over.{over}
use Rattle.client_registry.specs.Live.{live, is_listed, is_live_with, added_list, counter}
use Rattle.sse_model.specs.Names.{Name, name, Class, class_of, Token, ListLabel, PlusLabel, Revocation, ListLabels, PlusLabels, Revocations, PlaceTags, Table}
use Rattle.sse_model.specs.Positions.{Position, entry_positions, block_positions, addition_positions}
use Rattle.sse_model.specs.Wire.{words_live}

-- the names of a list of encrypted texts: of each its label, then its pad
abbrev pub names_of : List Position → List Name
names_of positions = flat_map (λ p. p.label ∷ p.pad ∷ []) positions

-- whether a command after these others sends the revocation number of the pair
abbrev pub sends_number : Setup → List ℕ → ℕ → List Command → Command → Bool
sends_number s word id past (Add d) = d.id == id && has_word word d && is_listed s past word id
sends_number s word id past (Delete other) = other == id && is_live_with s past word id
sends_number s word id past (Search other) = false

-- whether these commands sent it
abbrev pub was_sent : Setup → List Command → List ℕ → ℕ → Bool
was_sent s past word id = list_any (λ sent. sent) (over (sends_number s word id) [] past)

abbrev pub searches_for : List ℕ → Command → Bool
searches_for word (Search other) = bytes_eq word other
searches_for word (Add d) = false
searches_for word (Delete id) = false

-- the names that a command draws after these others: an addition its new entries, a deletion the numbers that
-- were never sent, a search the token of a word that wasn't searched
abbrev pub drawn_by : ℕ → Setup → List Command → Command → List Name
drawn_by epoch s past (Add d) = names_of (addition_positions epoch s past d)
drawn_by epoch s past (Delete id) =
    map (λ word. name epoch word Revocation id)
    (filter (λ word. not (was_sent s past word id)) (words_live (live s.documents past) id))
drawn_by epoch s past (Search word) =
    if list_any (searches_for word) past then [] else name epoch word Token 0 ∷ []

-- the names that a run draws: setup's for each word its label and pad, then for each block its tag and pad
abbrev pub drawn : Offsets → Run → List (List Name)
drawn o run =
    (names_of (entry_positions o.epoch run.setup) ++ names_of (block_positions o.epoch run.setup))
    ∷ over (drawn_by o.epoch run.setup) [] run.later

-- the names that a server looks up for a search: the list's label, each addition's up to the missing one, and the
-- revocation number of each listed pair
abbrev pub probed_by : ℕ → Setup → List Command → Command → List Name
probed_by epoch s past (Search word) =
    name epoch word ListLabel 0
    ∷ map (λ c. name epoch word PlusLabel c) (range_with_len 0 (counter s past word + 1))
    ++ map (λ id. name epoch word Revocation id) (setup_list s word ++ added_list s past word)
probed_by epoch s past (Add d) = []
probed_by epoch s past (Delete id) = []

abbrev pub probed : Offsets → Run → List (List Name)
probed o run = [] ∷ over (probed_by o.epoch run.setup) [] run.later

-- the classes of which a table's values have to differ: by them values are told apart or put in order
abbrev pub is_compared : Class → Bool
is_compared ListLabels = true
is_compared PlusLabels = true
is_compared Revocations = true
is_compared PlaceTags = true
is_compared _ = false

-- a table gives different values to different ones of these names, where they are of one epoch and of one compared class
abbrev pub AreDistinct : Table → List Name → Type 0
AreDistinct t names =
    (x y : Name) → Contains names x → Contains names y →
    x.epoch ≡ y.epoch → class_of x ≡ class_of y → is_compared (class_of x) ≡ true → t x ≡ t y → x ≡ y

-- no two different names of one epoch and one compared class, drawn or looked up, have equal values
abbrev pub IsCollisionFree : Table → Offsets → Run → Type 0
IsCollisionFree t o run = AreDistinct t (flat_map (λ n. n) (drawn o run ++ probed o run))
