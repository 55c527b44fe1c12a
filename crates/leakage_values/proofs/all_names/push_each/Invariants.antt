use Rattle.std.proofs.Common.{◌≡◌, take}
use Rattle.leakage_values.specs.NamesOnce.{Marks, with_names}
use Rattle.leakage_values.proofs.all_names.push_each.Given as goal

abbrev pub invariant-loop-name : goal.invariant-loop-name
invariant-loop-name l = record {
  names : l.names ≡ with_names l.initial.names (take l.name-index l.more);
  marks : Marks l.seen l.names;
}
