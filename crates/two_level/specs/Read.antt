-- The reading of a cell or a block in plaintext: how many numbers stand before its zeros, or why it has no such form.
use Rattle.std.specs.Prelude.{ℕ, List, take, nat_lt, Option, None, Some, option_map, option_and_then, Result, Ok, Err}
use Rattle.std.specs.Option.{option_or, option_map_or}
use Rattle.std.specs.List.{position_from}
use Rattle.list_packing.specs.LeadingNumbers.{leading_count, first_hole}
use Rattle.two_level.specs.Plan.{CellKind, Identifiers, DataPointers, BlockPointers}
use Rattle.two_level.specs.Opened.{kind_of}
use Rattle.two_level.specs.declared.cell_fault.CellFault.{CellFault}
use Rattle.two_level.specs.declared.cell_fault.CellFault.TheVariants.{BadKind, Hole, BadPointer}
use Rattle.two_level.specs.declared.cell_read.CellRead.{CellRead}

-- how many blocks the numbers of a cell may point to; identifiers point to none
abbrev pub pointed_to : CellKind → ℕ → Option ℕ
pointed_to Identifiers blocks = None
pointed_to DataPointers blocks = Some blocks
pointed_to BlockPointers blocks = Some blocks

-- the first place of a pointer past the last of these blocks, which pointers count from 1
abbrev pub bad_pointer : ℕ → List ℕ → Option ℕ
bad_pointer blocks pointers = position_from (λ pointer. nat_lt blocks pointer) 0 pointers

-- why these numbers, pointers into so many blocks where there is a count, don't stand as those of a cell or a block:
-- the first hole, else the first bad pointer before the zeros
abbrev pub form_fault : Option ℕ → List ℕ → Option CellFault
form_fault pointed numbers =
    option_or (option_map (λ place. Hole place) (first_hole numbers))
    (option_and_then (λ blocks. option_map (λ place. BadPointer place) (bad_pointer blocks (take (leading_count numbers) numbers))) pointed)

-- why a cell has no such form: its kind, else its numbers
abbrev pub cell_fault : ℕ → ℕ → List ℕ → Option CellFault
cell_fault blocks kind numbers = option_map_or (λ k. form_fault (pointed_to k blocks) numbers) (kind_of kind) (Some (BadKind kind))

-- the answer for a cell of this kind byte and these numbers, over an array of so many blocks
abbrev pub cell_read : ℕ → ℕ → List ℕ → Result CellRead CellFault
cell_read blocks kind numbers =
    option_map_or (λ fault. Err fault) (cell_fault blocks kind numbers) (Ok (record { kind = kind; count = leading_count numbers }))

-- the answer for a block of these numbers, pointers into so many blocks where there is a count
abbrev pub block_read : Option ℕ → List ℕ → Result ℕ CellFault
block_read pointed numbers = option_map_or (λ fault. Err fault) (form_fault pointed numbers) (Ok (leading_count numbers))
