use Rattle.std.proofs.Common.{◌≡◌, ◌++◌, map}
use Rattle.std.specs.List.{range_with_len}
use Rattle.leakage_values.specs.SetupDrawings.{block_by_number}
use Rattle.leakage_values.proofs.setup.push_blocks_of.Given as goal

abbrev pub invariant-loop-i : goal.invariant-loop-i
invariant-loop-i l = l.drawings ≡ l.initial.drawings ++ map (block_by_number l.epoch l.word) (range_with_len 0 l.i)
