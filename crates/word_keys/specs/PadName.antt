-- The pad that a slot names.
use Rattle.std.specs.Prelude.{ℕ, ◌+◌, ◌^◌, List}
use Rattle.keyed_fn.specs.KeyedFn.{KeyedFn}

-- a pad by its key and its number
pub record PadName : Type 0 where
  pub key : List ℕ
  pub number : ℕ

-- the pad of the cell of a list, under the key of its pads
abbrev pub cell_name : List ℕ → PadName
cell_name key = record { key = key; number = 0 }

-- the pad of block i of a list, under the key of its pads
abbrev pub block_name : List ℕ → ℕ → PadName
block_name key i = record { key = key; number = i + 1 }

-- the pad of addition c of a word, under the key of its additions' pads
abbrev pub plus_name : List ℕ → ℕ → PadName
plus_name key c = record { key = key; number = c }

-- the pad of the cell of dummy entry i, under the key of the dummies' pads
abbrev pub dummy_cell_name : List ℕ → ℕ → PadName
dummy_cell_name key i = record { key = key; number = i }

-- the pad of dummy block j, under the key of the dummies' pads: its number is above those of the cells
abbrev pub dummy_block_name : List ℕ → ℕ → PadName
dummy_block_name key j = record { key = key; number = 2 ^ 32 + j }

-- the pad after the one named, under the same key
abbrev pub name_after : PadName → PadName
name_after name = record { key = name.key; number = name.number + 1 }

-- so many bytes of the pad of this name
abbrev pub named_pad : KeyedFn → PadName → ℕ → List ℕ
named_pad f name len = f.pad name.key name.number len
