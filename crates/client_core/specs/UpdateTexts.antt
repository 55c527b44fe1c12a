-- The frame of an update, by the facts of the history before it.
use Rattle.std.specs.Prelude.{◌≡◌, ℕ, Bool, true, not, List, All, length, map, filter, Option, option_map}
use Rattle.std.specs.Option.{option_or}
use Rattle.add_counters.specs.NewEntry.{new_entry}
use Rattle.add_counters.specs.declared.entry.Entry.{Entry as Made}
use Rattle.client_registry.specs.Document.{Document}
use Rattle.client_registry.specs.Facts.{Facts}
use Rattle.keyed_fn.specs.KeyedFn.{KeyedFn}
use Rattle.keyed_fn.specs.KeyFormulas.{part_key, revocation}
use Rattle.sse_frames.specs.Frames.{Entry, FrameText, AddFrame, DeleteFrame}
use Rattle.sse_frames.specs.Order.{by_bytes}
use Rattle.sse_model.specs.Compared.{Collision, Labels, Numbers, equal_among}
use Rattle.word_keys.specs.KeyPair.{plus_keys}

-- the entry of the next addition of a word, and a word's revocation number
abbrev pub next_entry_of : KeyedFn → List ℕ → Facts → ℕ → List ℕ → Entry
next_entry_of f key facts id word = new_entry f (plus_keys f key word) (facts.counter word) id

abbrev pub number_of : KeyedFn → List ℕ → ℕ → List ℕ → List ℕ
number_of f key id word = revocation f (part_key f key 5 word) id

-- a label of 16 bytes and 8 encrypted bytes
abbrev pub HaveSizes : List Made → Type 0
HaveSizes entries = All (λ e. (length e.label ≡ 16) × (length e.sealed ≡ 8)) entries

-- the entries of an addition, one for each new pair, and its numbers, one for each pair that is listed: in the
-- document's order
abbrev pub entries_added : KeyedFn → List ℕ → Facts → Document → List Entry
entries_added f key facts d = map (next_entry_of f key facts d.id) (filter (λ word. not (facts.listed word d.id)) d.words)

abbrev pub numbers_added : KeyedFn → List ℕ → Facts → Document → List (List ℕ)
numbers_added f key facts d = map (number_of f key d.id) (filter (λ word. facts.listed word d.id) d.words)

-- the frame of an addition: entries by rising label, numbers rising
abbrev pub add_text : KeyedFn → List ℕ → Facts → ℕ → Document → FrameText
add_text f key facts q d = AddFrame q (by_bytes (λ entry. entry.label) (entries_added f key facts d)) (by_bytes (λ number. number) (numbers_added f key facts d))

-- the frame of a deletion of a document of these words
abbrev pub delete_text : KeyedFn → List ℕ → ℕ → ℕ → List (List ℕ) → FrameText
delete_text f key q id words = DeleteFrame q (by_bytes (λ number. number) (map (number_of f key id) words))

-- two equal labels of an addition's entries, else two equal numbers, by the positions of their words
abbrev pub labels_collide : KeyedFn → List ℕ → Facts → Document → Option Collision
labels_collide f key facts d =
    option_map (λ places. Labels places.0 places.1) (equal_among (λ word. not (facts.listed word d.id)) (λ word. (next_entry_of f key facts d.id word).label) d.words)

abbrev pub numbers_collide : KeyedFn → List ℕ → ℕ → (List ℕ → Bool) → List (List ℕ) → Option Collision
numbers_collide f key id keep words =
    option_map (λ places. Numbers places.0 places.1) (equal_among keep (number_of f key id) words)

abbrev pub add_collision : KeyedFn → List ℕ → Facts → Document → Option Collision
add_collision f key facts d = option_or (labels_collide f key facts d) (numbers_collide f key d.id (λ word. facts.listed word d.id) d.words)

abbrev pub delete_collision : KeyedFn → List ℕ → ℕ → List (List ℕ) → Option Collision
delete_collision f key id words = numbers_collide f key id (λ word. true) words
