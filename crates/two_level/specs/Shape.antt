-- The parameters of a layout.
use Rattle.std.specs.Prelude.{ℕ, ◌≤◌}

-- b numbers in a cell (1 to 64), big numbers in a block (1 to 256)
pub record Shape : Type 0 where
  pub b : ℕ
  pub big : ℕ

-- both are within their limits
pub record IsShape (s : Shape) : Type 0 where
  pub cell_some : 1 ≤ s.b
  pub cell_most : s.b ≤ 64
  pub block_some : 1 ≤ s.big
  pub block_most : s.big ≤ 256
