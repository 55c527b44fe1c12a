-- How a list is laid out in a cell and blocks: by its length, and the parameters.
use Rattle.std.specs.Prelude.{ℕ, ◌+◌, ◌*◌, Option, None, Some, nat_le, if◌then◌else◌}
use Rattle.std.specs.Int.{div_ceil}
use Rattle.two_level.specs.Shape.{Shape}

-- what the numbers of a cell are
pub data CellKind : Type 0 where
  Identifiers : CellKind
  DataPointers : CellKind
  BlockPointers : CellKind

-- how a list is laid out: what its cell holds, and how many blocks hold pointers and identifiers
pub record Plan : Type 0 where
  pub kind : CellKind
  pub pointer_blocks : ℕ
  pub data_blocks : ℕ

-- the plan of a list of n identifiers; none where it is too long for two levels
abbrev pub plan : Shape → ℕ → Option Plan
plan s n =
    if nat_le n s.b then Some (record { kind = Identifiers; pointer_blocks = 0; data_blocks = 0 })
    else if nat_le n (s.b * s.big) then Some (record { kind = DataPointers; pointer_blocks = 0; data_blocks = div_ceil n s.big })
    else if nat_le n (s.b * s.big * s.big) then Some (record { kind = BlockPointers; pointer_blocks = div_ceil (div_ceil n s.big) s.big; data_blocks = div_ceil n s.big })
    else None

-- how many blocks of the array a plan takes
abbrev pub block_count : Option Plan → ℕ
block_count None = 0
block_count (Some p) = p.pointer_blocks + p.data_blocks
