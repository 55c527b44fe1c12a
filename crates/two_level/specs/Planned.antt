-- The layout that a plan of the code stands for.
use Rattle.std.specs.Prelude.{ℕ, Option, None, Some, Result, Ok, Err}
use Rattle.two_level.specs.Plan as layout
use Rattle.two_level.specs.Plan.{CellKind, Identifiers, DataPointers, BlockPointers}
use Rattle.two_level.specs.declared.planned.Plan.{Plan}
use Rattle.two_level.specs.declared.too_long.ListTooLong.{ListTooLong}

-- the byte that stands for a kind of cell
abbrev pub kind_byte : CellKind → ℕ
kind_byte Identifiers = 0
kind_byte DataPointers = 1
kind_byte BlockPointers = 2

-- the answer for a list of n identifiers with this plan
abbrev pub planned : ℕ → Option layout.Plan → Result Plan ListTooLong
planned n None = Err (record { 0 = n })
planned n (Some p) = Ok (record { kind = kind_byte p.kind; pointer_blocks = p.pointer_blocks; data_blocks = p.data_blocks })
