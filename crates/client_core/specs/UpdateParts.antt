-- The parts that the joined lists of an update's frame keep.
use Rattle.std.specs.Prelude.{◌+◌, ◌≤◌, ℕ, List, length}
use Rattle.sse_frames.specs.Frames.{IsNumber, Rises, labels_of}
use Rattle.sse_frames.specs.FrameViews.{entries_in, items_in}
use Rattle.sse_frames.specs.Sizes.{AreAdded, AreItems}

-- joined entries and numbers of an addition: rising, at most 4,096 of both
pub record Adds (q : ℕ) (entries numbers : List ℕ) : Type 0 where
  pub number : IsNumber q
  pub sizes : AreAdded entries numbers
  pub count : length (entries_in 8 entries) + length (items_in 16 numbers) ≤ 4096
  pub rises : Rises (labels_of (entries_in 8 entries))
  pub numbers_rise : Rises (items_in 16 numbers)

-- joined numbers of a deletion: rising, at most 4,096
pub record Revokes (q : ℕ) (numbers : List ℕ) : Type 0 where
  pub number : IsNumber q
  pub sizes : AreItems 16 numbers
  pub count : length (items_in 16 numbers) ≤ 4096
  pub numbers_rise : Rises (items_in 16 numbers)
