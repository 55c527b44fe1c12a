-- The values of a command that must differ, and the place where two of them are equal.
use Rattle.std.specs.Prelude.{ℕ, not, Bool, true, List, [], length, map, filter, slice_index, slice_index_or, Option, None, option_map}
use Rattle.std.specs.List.{range_with_len}
use Rattle.std.specs.Option.{option_or}
use Rattle.client_registry.specs.Command.{Command, Add, Delete, Search}
use Rattle.client_registry.specs.FirstClash.{first_clash}
use Rattle.client_registry.specs.Live.{live, is_listed, counter}
use Rattle.client_registry.specs.Setup.{Setup}
use Rattle.sse_model.specs.Names.{name, PlusLabel, Revocation, Table}
use Rattle.sse_model.specs.Positions.{entry_positions, block_positions}
use Rattle.sse_model.specs.Wire.{labels_in, words_live}

-- two equal values of a command: labels of two words, tags of two blocks, or revocation numbers of two words. A setup's
-- words and blocks are counted as its entries and blocks are; those of a document are counted as it gives its words
pub data Collision : Type 0 where
  Labels : (first second : ℕ) → Collision
  Places : (first second : ℕ) → Collision
  Numbers : (first second : ℕ) → Collision

-- the positions of the words that pass
abbrev pub positions_of : (List ℕ → Bool) → List (List ℕ) → List ℕ
positions_of keep words = filter (λ i. keep (slice_index_or words i [])) (range_with_len 0 (length words))

-- of the words that pass, the positions of the first two with equal values
abbrev pub equal_among : (List ℕ → Bool) → (List ℕ → List ℕ) → List (List ℕ) → Option (ℕ × ℕ)
equal_among keep value words =
    option_map (λ places. (slice_index (positions_of keep words) places.0, slice_index (positions_of keep words) places.1)) (first_clash (map value (filter keep words)))

-- of a setup: labels first
abbrev pub collision_of_setup : Table → (epoch : ℕ) → Setup → Option Collision
collision_of_setup t epoch s = option_or
    (option_map (λ places. Labels places.0 places.1) (first_clash (labels_in t (entry_positions epoch s))))
    (option_map (λ places. Places places.0 places.1) (first_clash (labels_in t (block_positions epoch s))))

-- of the revocation numbers that these words send with one identifier
abbrev pub collision_of_numbers : Table → (epoch id : ℕ) → (List ℕ → Bool) → List (List ℕ) → Option Collision
collision_of_numbers t epoch id keep words =
    option_map (λ places. Numbers places.0 places.1) (equal_among keep (λ word. t (name epoch word Revocation id)) words)

-- of a command after these others: the labels of an addition's new entries, and the numbers that an addition or a
-- deletion sends
abbrev pub collision_of : Table → (epoch : ℕ) → Setup → List Command → Command → Option Collision
collision_of t epoch s past (Add d) = option_or
    (option_map (λ places. Labels places.0 places.1)
    (equal_among (λ word. not (is_listed s past word d.id)) (λ word. t (name epoch word PlusLabel (counter s past word))) d.words))
    (collision_of_numbers t epoch d.id (λ word. is_listed s past word d.id) d.words)
collision_of t epoch s past (Delete id) = collision_of_numbers t epoch id (λ word. true) (words_live (live s.documents past) id)
collision_of t epoch s past (Search word) = None
