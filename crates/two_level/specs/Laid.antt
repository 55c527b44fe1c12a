-- The contents of a list's cell and blocks (docs/FORMATS.md).
use Rattle.std.specs.Prelude.{ℕ, ◌+◌, List, [], ◌∷◌, ◌++◌, length, map, take, drop, slice_index_or, Option, option_map}
use Rattle.list_packing.specs.Parts as packing
use Rattle.list_packing.specs.Parts.{filled}
pub use Rattle.list_packing.specs.Numbers.{number_bytes}
use Rattle.two_level.specs.Shape.{Shape}
use Rattle.two_level.specs.Plan.{CellKind, Identifiers, DataPointers, BlockPointers, plan}
use Rattle.two_level.specs.Planned.{kind_byte}

-- a list laid out: what its cell's numbers are, the b numbers of the cell, and the blocks, big numbers in each
pub record Laid : Type 0 where
  pub kind : CellKind
  pub numbers : List ℕ
  pub blocks : List (List ℕ)

-- the pointers to blocks at these places of the array, places counted from 0 and pointers from 1
abbrev pub pointers : List ℕ → List ℕ
pointers ranks = map (λ rank. rank + 1) ranks

-- the layout of each kind, where `ps` point to its blocks, the first p of them to blocks of pointers
abbrev pub laid_as : Shape → CellKind → ℕ → List ℕ → List ℕ → Laid
laid_as s Identifiers p ps ids =
    record { kind = Identifiers; numbers = filled s.b ids; blocks = [] }
laid_as s DataPointers p ps ids =
    record { kind = DataPointers; numbers = filled s.b ps; blocks = packing.blocks s.big ids }
laid_as s BlockPointers p ps ids =
    record {
      kind = BlockPointers;
      numbers = filled s.b (take p ps);
      blocks = packing.blocks s.big (drop p ps) ++ packing.blocks s.big ids;
    }

-- a list laid out, block i standing at the place that rank i of `ranks` says; none where the list is too long
abbrev pub laid : Shape → List ℕ → List ℕ → Option Laid
laid s ranks ids = option_map (λ p. laid_as s p.kind p.pointer_blocks (pointers ranks) ids) (plan s (length ids))

-- the bytes of a cell: its kind, then its numbers
abbrev pub cell_bytes : Laid → List ℕ
cell_bytes l = kind_byte l.kind ∷ number_bytes l.numbers

-- the bytes of block number i of a list: its numbers
abbrev pub block_bytes : ℕ → Laid → List ℕ
block_bytes i l = number_bytes (slice_index_or l.blocks i [])
