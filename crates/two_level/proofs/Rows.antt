-- Lists planned, laid out and opened by hand.
use Rattle.std.proofs.Common.{◌≡◌, ℕ, [], ◌∷◌, refl}
use Rattle.std.specs.Prelude.{Some, None}
use Rattle.two_level.specs.Shape.{Shape}
use Rattle.two_level.specs.Plan.{Identifiers, DataPointers, BlockPointers, plan, block_count}
use Rattle.two_level.specs.Laid.{laid, cell_bytes, number_bytes}
use Rattle.two_level.specs.Opened.{numbers_of, kind_of, opened, in_array}

-- b numbers in a cell, big in a block
abbrev shape : ℕ → ℕ → Shape
shape b big = record { b = b; big = big }

-- how many blocks n identifiers take
abbrev blocks_for : Shape → ℕ → ℕ
blocks_for s n = block_count (plan s n)

-- one word in n documents, with cells and blocks of two: 0 blocks, 2, 2, 5 (2 of them of pointers), 6
pub blocks_of_2_row : blocks_for (shape 2 2) 2 ≡ 0
blocks_of_2_row = refl

pub blocks_of_3_row : blocks_for (shape 2 2) 3 ≡ 2
blocks_of_3_row = refl

pub blocks_of_4_row : blocks_for (shape 2 2) 4 ≡ 2
blocks_of_4_row = refl

pub blocks_of_5_row : plan (shape 2 2) 5 ≡ Some (record { kind = BlockPointers; pointer_blocks = 2; data_blocks = 3 })
blocks_of_5_row = refl

pub blocks_of_8_row : blocks_for (shape 2 2) 8 ≡ 6
blocks_of_8_row = refl

pub too_long_row : plan (shape 2 2) 9 ≡ None
too_long_row = refl

-- cells of 16 and blocks of 64: 141 data blocks and 3 of pointers, 128 and 2
pub blocks_of_9000_row : plan (shape 16 64) 9000 ≡ Some (record { kind = BlockPointers; pointer_blocks = 3; data_blocks = 141 })
blocks_of_9000_row = refl

pub blocks_of_8192_row : blocks_for (shape 16 64) 8192 ≡ 130
blocks_of_8192_row = refl

-- one identifier in a cell of two
pub cell_row : laid (shape 2 2) [] (3 ∷ []) ≡ Some (record { kind = Identifiers; numbers = 3 ∷ 0 ∷ []; blocks = [] })
cell_row = refl

-- three identifiers in two blocks, the first of which stands after the second
pub one_level_row : laid (shape 2 2) (1 ∷ 0 ∷ []) (7 ∷ 8 ∷ 9 ∷ [])
    ≡ Some (record { kind = DataPointers; numbers = 2 ∷ 1 ∷ []; blocks = (7 ∷ 8 ∷ []) ∷ (9 ∷ 0 ∷ []) ∷ [] })
one_level_row = refl

-- five identifiers in three blocks, under two blocks of pointers
pub two_levels_row : laid (shape 2 2) (4 ∷ 0 ∷ 2 ∷ 1 ∷ 3 ∷ []) (11 ∷ 12 ∷ 13 ∷ 14 ∷ 15 ∷ [])
    ≡ Some (record {
      kind = BlockPointers;
      numbers = 5 ∷ 1 ∷ [];
      blocks = (3 ∷ 2 ∷ []) ∷ (4 ∷ 0 ∷ []) ∷ (11 ∷ 12 ∷ []) ∷ (13 ∷ 14 ∷ []) ∷ (15 ∷ 0 ∷ []) ∷ [];
    })
two_levels_row = refl

-- the same list, read back from the array in which each block stands at its rank
pub opened_row : opened (in_array ((4 ∷ 0 ∷ []) ∷ (13 ∷ 14 ∷ []) ∷ (11 ∷ 12 ∷ []) ∷ (15 ∷ 0 ∷ []) ∷ (3 ∷ 2 ∷ []) ∷ []))
    BlockPointers (5 ∷ 1 ∷ []) ≡ Some (11 ∷ 12 ∷ 13 ∷ 14 ∷ 15 ∷ [])
opened_row = refl

-- a number after a zero in the cell, a pointer past the array, a number after a zero in a block
pub hole_in_cell_row : opened (in_array []) Identifiers (4 ∷ 0 ∷ 5 ∷ []) ≡ None
hole_in_cell_row = refl

pub bad_pointer_row : opened (in_array ((7 ∷ 8 ∷ []) ∷ [])) DataPointers (1 ∷ 2 ∷ []) ≡ None
bad_pointer_row = refl

pub hole_in_block_row : opened (in_array ((0 ∷ 8 ∷ []) ∷ [])) DataPointers (1 ∷ 0 ∷ []) ≡ None
hole_in_block_row = refl

pub bad_kind_row : kind_of 3 ≡ None
bad_kind_row = refl

-- two identifiers in the one block of a cell with one pointer: the cell's bytes and the block's, and the numbers read back
pub one_block_row : laid (shape 1 2) (0 ∷ []) (1 ∷ 2 ∷ [])
    ≡ Some (record { kind = DataPointers; numbers = 1 ∷ []; blocks = (1 ∷ 2 ∷ []) ∷ [] })
one_block_row = refl

pub cell_bytes_row : cell_bytes (record { kind = DataPointers; numbers = 1 ∷ []; blocks = (1 ∷ 2 ∷ []) ∷ [] })
    ≡ 1 ∷ 0 ∷ 0 ∷ 0 ∷ 0 ∷ 0 ∷ 0 ∷ 0 ∷ 1 ∷ []
cell_bytes_row = refl

pub number_bytes_row : number_bytes (1 ∷ 258 ∷ []) ≡ 0 ∷ 0 ∷ 0 ∷ 0 ∷ 0 ∷ 0 ∷ 0 ∷ 1 ∷ 0 ∷ 0 ∷ 0 ∷ 0 ∷ 0 ∷ 0 ∷ 1 ∷ 2 ∷ []
number_bytes_row = refl

pub numbers_of_row : numbers_of (0 ∷ 0 ∷ 0 ∷ 0 ∷ 0 ∷ 0 ∷ 0 ∷ 1 ∷ 0 ∷ 0 ∷ 0 ∷ 0 ∷ 0 ∷ 0 ∷ 1 ∷ 2 ∷ []) ≡ 1 ∷ 258 ∷ []
numbers_of_row = refl
