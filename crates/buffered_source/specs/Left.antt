-- What is left of the bytes that were taken.
use Rattle.std.specs.Prelude.{ℕ, List, take, drop}

-- those between two places
abbrev pub left_of : List ℕ → (at end : ℕ) → List ℕ
left_of room at end = drop at (take end room)
