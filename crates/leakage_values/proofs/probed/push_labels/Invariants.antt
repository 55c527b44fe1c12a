use Rattle.std.proofs.Common.{◌≡◌, ◌++◌, map}
use Rattle.std.specs.List.{range_with_len}
use Rattle.leakage_values.specs.SetupDrawings.{code_name}
use Rattle.leakage_names.specs.declared.name.NameKind.TheVariants as kinds
use Rattle.leakage_values.proofs.probed.push_labels.Given as goal

abbrev pub invariant-loop-counter : goal.invariant-loop-counter
invariant-loop-counter l = l.names ≡ l.initial.names ++ map (code_name l.epoch l.word kinds.PlusLabel) (range_with_len 0 l.counter)
