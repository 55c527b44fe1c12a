-- A contract's view of an index.
use Rattle.std.specs.Prelude.{◌≡◌, ℕ, ◌+◌, ◌*◌, ◌≤◌, ◌^◌, List, length}

-- the numbers per cell and per block, and Q; how many entries and blocks it has, dummies included, and how many words and
-- blocks of their lists; its entries by rising label, joined, and its blocks by rising place tag, joined
pub record Built : Type 0 where
  pub b : ℕ
  pub big : ℕ
  pub pad : ℕ
  pub words : ℕ
  pub blocks : ℕ
  pub own_words : ℕ
  pub own_blocks : ℕ
  pub entries : List ℕ
  pub array : List ℕ

-- its parameters and counts are within their limits, those with dummies no less than those without, and its bytes are
-- those of as many entries and blocks
pub record IsIndex (index : Built) : Type 0 where
  pub some : 1 ≤ index.b
  pub cell : index.b ≤ 64
  pub block_some : 1 ≤ index.big
  pub block : index.big ≤ 256
  pub pad_some : 1 ≤ index.pad
  pub pad_most : index.pad ≤ 4096
  pub most : index.words ≤ 2 ^ 20
  pub few_blocks : index.blocks ≤ 2 ^ 20
  pub own_words_within : index.own_words ≤ index.words
  pub own_blocks_within : index.own_blocks ≤ index.blocks
  pub whole : length index.entries ≡ index.words * (17 + 8 * index.b)
  pub array_whole : length index.array ≡ index.blocks * (8 * index.big)
