-- Plaintexts, in the order of the positions that they are of.
use Rattle.std.specs.Prelude.{ℕ, List, map}
use Rattle.sse_model.specs.Positions.{Position}

-- those of these positions under the ranks of the setup's blocks
abbrev pub clears : (ranks : List ℕ) → List Position → List (List ℕ)
clears ranks positions = map (λ p. p.clear ranks) positions
