use Rattle.std.proofs.Common.{◌≡◌, ◌+◌, ◌-◌, ◌≤◌}
use Rattle.std.specs.List.{range_with_len}
use Rattle.leakage_model.proofs.pair.HomeAt.home.Given as goal

abbrev pub invariant-loop-position : goal.invariant-loop-position
invariant-loop-position l = record {
  blocks : l.blocks ≡ range_with_len l.self.first (l.position - l.self.first);
  within : l.position ≤ l.self.first + (l.self.end - l.self.first);
}
