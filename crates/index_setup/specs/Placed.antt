-- Texts written in their places.
use Rattle.std.specs.Prelude.{ℕ, ◌*◌, List, [], ◌∷◌, ◌++◌, length, map, replicate, slice_index, slice_index_or, slice_set}
use Rattle.std.specs.List.{range_with_len}
use Rattle.keyed_fn.specs.KeyedFn.{KeyedFn}
use Rattle.keyed_fn.specs.DummyFormulas.{dummy_block_pad, dummy_cell_pad}
use Rattle.keyed_fn.specs.KeyFormulas.{block_pad}
use Rattle.keyed_fn.specs.Xored.{xored}
use Rattle.two_level.specs.Shape.{Shape}
use Rattle.two_level.specs.Laid.{laid}
use Rattle.sse_model.specs.Names.{block_size, cell_size}
use Rattle.sse_model.specs.Positions.{block_text}

-- the slots after each text was written into the slot of its rank, from the first on
abbrev pub placed : {X : Type 0} → List X → List ℕ → List X → List X
placed slots [] texts = slots
placed slots (rank ∷ ranks) [] = slots
placed slots (rank ∷ ranks) (text ∷ texts) = placed (slice_set slots rank text) ranks texts

-- the encrypted blocks of a list, under the key of its pads, by block number
abbrev pub block_texts : KeyedFn → List ℕ → Shape → List ℕ → List ℕ → List (List ℕ)
block_texts f key shape ranks ids =
    map (λ i. xored (block_text i (laid shape ranks ids)) (block_pad f key i (8 * shape.big))) (range_with_len 0 (length ranks))

-- the entries of dummies at these places among the sorted labels, by the number of the dummy, under the key of their pads:
-- the label at the place, and zeros encrypted
abbrev pub dummy_entry_texts : KeyedFn → List ℕ → Shape → List (List ℕ) → List ℕ → List (List ℕ)
dummy_entry_texts f key shape labels places =
    map (λ i. slice_index_or labels (slice_index places i) [] ++ xored (replicate (cell_size shape) 0) (dummy_cell_pad f key i (cell_size shape))) (range_with_len 0 (length places))

-- the first blocks of dummies, by number, under the key of their pads: zeros encrypted
abbrev pub dummy_block_texts : KeyedFn → List ℕ → Shape → (count : ℕ) → List (List ℕ)
dummy_block_texts f key shape count =
    map (λ j. xored (replicate (block_size shape) 0) (dummy_block_pad f key j (block_size shape))) (range_with_len 0 count)
