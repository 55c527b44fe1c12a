-- The pads of a word's list in the order in which they are given, and what each pad is by the key formulas.
use Rattle.std.proofs.Common.{◌≡◌, ◌+◌, ℕ, List, refl}
use Rattle.keyed_fn.specs.DummyFormulas.{dummy_cell_pad, dummy_block_pad}
use Rattle.keyed_fn.specs.KeyedFn.{KeyedFn}
use Rattle.keyed_fn.specs.KeyFormulas.{cell_pad, block_pad, plus_pad}
use Rattle.word_keys.specs.PadName.{cell_name, block_name, plus_name, dummy_cell_name, dummy_block_name, name_after, named_pad}

-- after the cell comes block 0
pub name_after-cell_name : (key : List ℕ) → name_after (cell_name key) ≡ block_name key 0
name_after-cell_name key = refl

-- after a block comes the next one
pub name_after-block_name : (key : List ℕ) (i : ℕ) → name_after (block_name key i) ≡ block_name key (i + 1)
name_after-block_name key i = refl

-- the pad of the cell
pub named_pad-cell_name : (f : KeyedFn) (key : List ℕ) (len : ℕ) →
    named_pad f (cell_name key) len ≡ cell_pad f key len
named_pad-cell_name f key len = refl

-- the pad of a block
pub named_pad-block_name : (f : KeyedFn) (key : List ℕ) (i len : ℕ) →
    named_pad f (block_name key i) len ≡ block_pad f key i len
named_pad-block_name f key i len = refl

-- the 8 bytes of the pad of an addition
pub named_pad-plus_name : (f : KeyedFn) (key : List ℕ) (c : ℕ) →
    named_pad f (plus_name key c) 8 ≡ plus_pad f key c
named_pad-plus_name f key c = refl

-- the pad of the cell of a dummy entry
pub named_pad-dummy_cell_name : (f : KeyedFn) (key : List ℕ) (i len : ℕ) →
    named_pad f (dummy_cell_name key i) len ≡ dummy_cell_pad f key i len
named_pad-dummy_cell_name f key i len = refl

-- the pad of a dummy block
pub named_pad-dummy_block_name : (f : KeyedFn) (key : List ℕ) (j len : ℕ) →
    named_pad f (dummy_block_name key j) len ≡ dummy_block_pad f key j len
named_pad-dummy_block_name f key j len = refl
