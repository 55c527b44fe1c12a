use Rattle.std.proofs.Common.{◌≡◌, ◌++◌, map}
use Rattle.std.specs.List.{range_with_len}
use Rattle.leakage_values.specs.SetupDrawings.{dummy_entry_drawing}
use Rattle.leakage_values.proofs.setup.push_dummy_entries.Given as goal

abbrev pub invariant-loop-i : goal.invariant-loop-i
invariant-loop-i l = l.drawings ≡ l.initial.drawings ++ map (dummy_entry_drawing l.epoch) (range_with_len 0 l.i)
