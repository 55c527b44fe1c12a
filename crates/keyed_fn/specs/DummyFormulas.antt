-- The labels, tags and pads of dummies, which a setup has so that the exact numbers of its words and blocks don't show. They
-- are of no word: labels and tags are made under the key of part 8 for no word, pads under that of part 9. Neither key leaves
-- the client. Dummies are numbered from 0; the numbers of tags and of blocks' pads begin at 2^32, above those of labels and cells.
use Rattle.std.specs.Prelude.{ℕ, ◌+◌, ◌^◌, List, take}
use Rattle.std.specs.Int.{w64, to_be_bytes}
use Rattle.keyed_fn.specs.KeyedFn.{KeyedFn}

-- the 16-byte label of dummy entry i, under the key of part 8: the function at the number i
abbrev pub dummy_label : KeyedFn → List ℕ → ℕ → List ℕ
dummy_label f key i = take 16 (f.prf key (to_be_bytes w64 i))

-- the 16-byte tag of dummy block j, under the key of part 8: the function at the number 2^32 + j
abbrev pub dummy_tag : KeyedFn → List ℕ → ℕ → List ℕ
dummy_tag f key j = take 16 (f.prf key (to_be_bytes w64 (2 ^ 32 + j)))

-- the pad of the cell of dummy entry i, of so many bytes, under the key of part 9: pad number i
abbrev pub dummy_cell_pad : KeyedFn → List ℕ → ℕ → ℕ → List ℕ
dummy_cell_pad f key i len = f.pad key i len

-- the pad of dummy block j, of so many bytes, under the key of part 9: pad number 2^32 + j
abbrev pub dummy_block_pad : KeyedFn → List ℕ → ℕ → ℕ → List ℕ
dummy_block_pad f key j len = f.pad key (2 ^ 32 + j) len
