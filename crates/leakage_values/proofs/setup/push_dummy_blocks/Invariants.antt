use Rattle.std.proofs.Common.{◌≡◌, ◌++◌, map}
use Rattle.std.specs.List.{range_with_len}
use Rattle.leakage_values.specs.SetupDrawings.{dummy_block_drawing}
use Rattle.leakage_values.proofs.setup.push_dummy_blocks.Given as goal

abbrev pub invariant-loop-j : goal.invariant-loop-j
invariant-loop-j l = l.drawings ≡ l.initial.drawings ++ map (dummy_block_drawing l.epoch) (range_with_len 0 l.j)
