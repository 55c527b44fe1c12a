use Rattle.std.proofs.Common.{◌≡◌, take}
use Rattle.std.specs.Prelude.{flat_map}
use Rattle.leakage_values.specs.NamesOnce.{Marks, with_names}
use Rattle.leakage_values.proofs.all_names.push_lists.Given as goal

abbrev pub invariant-loop-list : goal.invariant-loop-list
invariant-loop-list l = record {
  names : l.names ≡ with_names l.initial.names (flat_map (λ ns. ns) (take l.list-index l.lists));
  marks : Marks l.seen l.names;
}
