-- Pieces of bytes one after another, each at its place, and the pieces that labels stand for.
use Rattle.std.specs.Prelude.{◌≡◌, ℕ, ◌≤◌, List, map, length, slice_range, All}
use Rattle.std.specs.Option.{ForSome}
use Rattle.std.specs.FinMap as finmap
use Rattle.std.specs.FinSet as set
use Rattle.server_tables.specs.declared.extent.Extent.{Extent}
use Rattle.server_tables.specs.Labelled.{Labelled}
use Rattle.server_tables.specs.Contents.{NumberSet}

-- the piece at a place
abbrev pub piece_at : List ℕ → Extent → List ℕ
piece_at bytes place = slice_range bytes place.start place.end

-- a place among so many bytes
pub record IsPlace (size : ℕ) (place : Extent) : Type 0 where
  pub order : place.start ≤ place.end
  pub within : place.end ≤ size

-- a piece came after the others, at this place; the others are where they were
pub record IsAppended (old new piece : List ℕ) (place : Extent) : Type 0 where
  pub within : IsPlace (length new) place
  pub there : piece_at new place ≡ piece
  pub still : (p : Extent) → IsPlace (length old) p → IsPlace (length new) p
  pub kept : (p : Extent) → IsPlace (length old) p → piece_at new p ≡ piece_at old p

-- the same labels, each with what its value stands for
abbrev pub map_values : {V W : Type 0} → (V → W) → Labelled V → Labelled W
map_values f m = finmap.from_sorted (map (λ e. (e.0, f e.1)) (finmap.entries m))

-- the labels alone
abbrev pub label_set : Labelled (Unit {0}) → NumberSet
label_set m = set.from_list (finmap.keys m)

-- each label's place and each place of a list is among so many bytes
pub record ArePlaced (cell_bytes block_bytes : ℕ) (labels : Labelled Extent) (places : List Extent) : Type 0 where
  pub cells : (label : List ℕ) → ForSome (finmap.get labels label) (IsPlace cell_bytes)
  pub blocks : All (IsPlace block_bytes) places
