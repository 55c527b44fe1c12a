-- The uses of a run, one for each name.
use Rattle.std.specs.Prelude.{ℕ, not, ◌%◌, ◌^◌, List, [], ◌∷◌, filter, flat_map, sum, zip}
use Rattle.client_registry.specs.Run.{Run, Offsets}
use Rattle.def_leakage.specs.Relabelled.{Use, uses, value_for}
use Rattle.sse_model.specs.Names.{Table, same_name}
use Rattle.sse_model.specs.Positions.{block_positions, ranks_of}
use Rattle.sse_model.specs.Wire.{labels_in}

-- uses by first appearance of their names
abbrev pub first_uses : List Use → List Use
first_uses [] = []
first_uses (u ∷ us) = u ∷ filter (λ other. not (same_name u.name other.name)) (first_uses us)

-- the bytes of the values for the second run, added up in 64 bits by going over the uses of both in step
abbrev pub sum_in_step : Table → Offsets → (run other : Run) → ℕ
sum_in_step t o run other =
    let ranks = ranks_of (labels_in t (block_positions o.epoch run.setup)) in
    sum (flat_map (λ (pair : Use × Use). value_for t pair.0 pair.1) (zip (first_uses (uses o run ranks)) (first_uses (uses o other ranks)))) % 2 ^ 64
