-- The list that a reader finds after a cell.
use Rattle.std.specs.Prelude.{ℕ, zero, suc, ◌≡◌, ◌+◌, ◌<◌, ◌==◌, List, [], ◌∷◌, ◌++◌, length, Option, Some, None, option_map, option_and_then, slice_get, if◌then◌else◌}
pub use Rattle.list_packing.specs.Numbers.{numbers_of}
pub use Rattle.list_packing.specs.LeadingNumbers.{leading}
use Rattle.two_level.specs.Plan.{CellKind, Identifiers, DataPointers, BlockPointers}

-- the kind of cell that a byte stands for
abbrev pub kind_of : ℕ → Option CellKind
kind_of byte =
    if byte == 0 then Some Identifiers
    else if byte == 1 then Some DataPointers
    else if byte == 2 then Some BlockPointers
    else None

-- one list behind another, where both are there
abbrev pub joined : Option (List ℕ) → Option (List ℕ) → Option (List ℕ)
joined None later = None
joined (Some xs) later = option_map (λ ys. xs ++ ys) later

-- the leading numbers of the blocks at these pointers, which are the list's blocks from number `first` on
abbrev pub followed : (ℕ → ℕ → Option (List ℕ)) → ℕ → List ℕ → Option (List ℕ)
followed block first [] = Some []
followed block first (p ∷ ps) = joined (option_and_then leading (block first p)) (followed block (first + 1) ps)

-- the list of a cell's numbers; `block i p` are the numbers of block number i of the list, at pointer p
abbrev pub opened : (ℕ → ℕ → Option (List ℕ)) → CellKind → List ℕ → Option (List ℕ)
opened block Identifiers numbers = leading numbers
opened block DataPointers numbers = option_and_then (followed block 0) (leading numbers)
opened block BlockPointers numbers =
    option_and_then (λ tops. option_and_then (followed block (length tops)) (followed block 0 tops)) (leading numbers)

-- the list of a cell in the clear: a byte that says what its numbers are, and the numbers
abbrev pub cell_list : (ℕ → ℕ → Option (List ℕ)) → List ℕ → Option (List ℕ)
cell_list block [] = None
cell_list block (kind ∷ numbers) = option_and_then (λ k. opened block k (numbers_of numbers)) (kind_of kind)

-- the block at a pointer into an array in the clear, whatever its number
abbrev pub in_array : List (List ℕ) → ℕ → ℕ → Option (List ℕ)
in_array array number zero = None
in_array array number (suc place) = slice_get array place

-- a reader finds no block at a pointer above this count
pub record EndsAfter (blocks : ℕ) (block : ℕ → ℕ → Option (List ℕ)) : Type 0 where
  pub past : (number pointer : ℕ) → blocks < pointer → block number pointer ≡ None
