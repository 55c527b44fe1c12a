-- The text printed for each fault of a cell or a block.
use Rattle.std.specs.Prelude.{ℕ, List, ◌++◌, codes, decimal}
use Rattle.two_level.specs.declared.cell_fault.CellFault.{CellFault}
use Rattle.two_level.specs.declared.cell_fault.CellFault.TheVariants.{BadKind, Hole, BadPointer}

abbrev pub cell_fault_text : CellFault → List ℕ
cell_fault_text (BadKind byte) = codes "the kind of a cell is 0, 1 or 2, not " ++ decimal byte
cell_fault_text (Hole place) = codes "a number stands behind a zero, at place " ++ decimal place ++ codes " from 0"
cell_fault_text (BadPointer place) = codes "the pointer at place " ++ decimal place ++ codes " from 0 is above the number of blocks"
