use Rattle.std.proofs.Common.{◌≡◌, ◌++◌, take}
use Rattle.std.specs.Prelude.{flat_map}
use Rattle.leakage_draws.proofs.names.push_lists.Given as goal

abbrev pub invariant-loop-list : goal.invariant-loop-list
invariant-loop-list l = l.names ≡ l.initial.names ++ flat_map (λ ns. ns) (take l.list-index l.lists)
