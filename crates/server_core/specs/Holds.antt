-- The invariant of a server's tables.
use Rattle.std.specs.Prelude.{◌≡◌, ℕ, ◌%◌, ◌^◌, ◌<◌, ◌≤◌, List, length, All}
use Rattle.std.specs.Option.{ForSome}
use Rattle.std.specs.FinMap as map
use Rattle.server_tables.specs.Contents.{CellMap, Contents}

-- a cell is one byte and at most 64 numbers of 8 bytes
pub record IsCell (cell : List ℕ) : Type 0 where
  pub most : length cell ≤ 513
  pub numbers : length cell % 8 ≡ 1

pub record HasCells (dictionary : CellMap) : Type 0 where
  pub each : (label : List ℕ) → ForSome (map.get dictionary label) IsCell

-- a block is at most 256 numbers of 8 bytes
pub record IsBlock (block : List ℕ) : Type 0 where
  pub most : length block ≤ 2048
  pub numbers : length block % 8 ≡ 0

-- no more blocks than a number of 32 bits counts
pub record AreBlocks (array : List (List ℕ)) : Type 0 where
  pub each : All IsBlock array
  pub few : length array < 2 ^ 32

-- each label has a cell, and the array has blocks
pub record IsHeld (contents : Contents) : Type 0 where
  pub cells : HasCells contents.dictionary
  pub blocks : AreBlocks contents.array
