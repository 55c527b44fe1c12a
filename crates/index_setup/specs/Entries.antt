-- The index that a setup's documents make under a key.
use Rattle.std.specs.Prelude.{ℕ, List, length, map, flat_map, Option}
use Rattle.std.specs.List.{range_with_len}
use Rattle.client_registry.specs.Document.{Document}
use Rattle.client_registry.specs.Documents.{ids_with}
use Rattle.client_registry.specs.FirstClash as clashes
use Rattle.client_registry.specs.Setup.{Setup}
use Rattle.keyed_fn.specs.KeyedFn.{KeyedFn}
use Rattle.keyed_fn.specs.KeyFormulas.{part_key, list_label, place_tag}
use Rattle.two_level.specs.Plan.{plan, block_count}
use Rattle.two_level.specs.Shape.{Shape}
use Rattle.sse_frames.specs.Frames.{Entry, entry_bytes}
use Rattle.sse_frames.specs.Order.{by_bytes}
use Rattle.sse_model.specs.Names.{Table, table}
use Rattle.sse_model.specs.Positions.{sealed, ranks_of, entries_from, blocks_from, entry_positions, block_positions}
use Rattle.sse_model.specs.Wire.{labels_in}

-- the values of all names under this key, at the setup's shape
abbrev pub key_table : KeyedFn → List ℕ → Setup → Table
key_table f key s = table f s.shape (λ epoch. key)

-- the labels of the setup's entries, by word number, then those of its dummies
abbrev pub index_labels : KeyedFn → List ℕ → Setup → List (List ℕ)
index_labels f key s = labels_in (key_table f key s) (entry_positions 0 s)

-- the place tags of the setup's blocks, by word number and then by block number, then those of its dummies
abbrev pub index_tags : KeyedFn → List ℕ → Setup → List (List ℕ)
index_tags f key s = labels_in (key_table f key s) (block_positions 0 s)

-- two entries of the setup with equal labels: the least second position, then the least first
abbrev pub label_clash : KeyedFn → List ℕ → Setup → Option (ℕ × ℕ)
label_clash f key s = clashes.first_clash (index_labels f key s)

-- two blocks of the setup with equal places: the least second position, then the least first
abbrev pub place_clash : KeyedFn → List ℕ → Setup → Option (ℕ × ℕ)
place_clash f key s = clashes.first_clash (index_tags f key s)

-- the place of each block in the array, by its position
abbrev pub setup_ranks : KeyedFn → List ℕ → Setup → List ℕ
setup_ranks f key s = ranks_of (index_tags f key s)

-- the setup's entries, by position
abbrev pub setup_entries : KeyedFn → List ℕ → Setup → List Entry
setup_entries f key s = map (sealed (key_table f key s) (setup_ranks f key s)) (entry_positions 0 s)

-- the setup's blocks with their tags, by position
abbrev pub setup_blocks : KeyedFn → List ℕ → Setup → List Entry
setup_blocks f key s = map (sealed (key_table f key s) (setup_ranks f key s)) (block_positions 0 s)

-- the bytes of the dictionary: its entries by rising label, one after the other
abbrev pub dictionary_bytes : KeyedFn → List ℕ → Setup → List ℕ
dictionary_bytes f key s = flat_map entry_bytes (by_bytes (λ entry. entry.label) (setup_entries f key s))

-- the bytes of the array: the blocks by rising place tag, one after the other
abbrev pub array_bytes : KeyedFn → List ℕ → Setup → List ℕ
array_bytes f key s = flat_map (λ block. block.text) (by_bytes (λ block. block.label) (setup_blocks f key s))

-- the bytes of the entries of these words, whose blocks begin at this position, without dummies
abbrev pub entry_texts : KeyedFn → List ℕ → Setup → ℕ → List (List ℕ) → List (List ℕ)
entry_texts f key s first words = map entry_bytes (map (sealed (key_table f key s) (setup_ranks f key s)) (entries_from 0 s first words))

-- and those of their blocks
abbrev pub array_texts : KeyedFn → List ℕ → Setup → ℕ → List (List ℕ) → List (List ℕ)
array_texts f key s first words = map (λ block. block.text) (map (sealed (key_table f key s) (setup_ranks f key s)) (blocks_from 0 s first words))

-- the labels of these words, by the key formula
abbrev pub word_labels : KeyedFn → List ℕ → List (List ℕ) → List (List ℕ)
word_labels f key words = map (λ word. list_label f (part_key f key 1 word)) words

-- the tags of the blocks that the lists of these words take, by the key formula
abbrev pub block_tags : KeyedFn → List ℕ → Shape → List Document → List (List ℕ) → List (List ℕ)
block_tags f key shape docs words =
    flat_map (λ word. map (place_tag f (part_key f key 6 word)) (range_with_len 0 (block_count (plan shape (length (ids_with docs word)))))) words
