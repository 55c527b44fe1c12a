use Rattle.std.proofs.Common.{◌≡◌, ◌+◌, ◌%◌, ◌^◌, take}
use Rattle.std.specs.Prelude.{flat_map, sum}
use Rattle.leakage_draws.specs.Given.{given}
use Rattle.leakage_draws.proofs.counted.sum_of.Given as goal

abbrev pub invariant-loop-name : goal.invariant-loop-name
invariant-loop-name l = l.total ≡ (l.start + sum (flat_map (given l.sheet) (take l.name-index l.names))) % 2 ^ 64
