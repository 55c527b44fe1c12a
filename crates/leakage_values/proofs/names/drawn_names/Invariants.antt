use Rattle.std.proofs.Common.{◌≡◌, map, take}
use Rattle.std.specs.Prelude.{flat_map}
use Rattle.leakage_values.specs.DrawnNames.{names_in_code}
use Rattle.leakage_values.proofs.names.drawn_names.Given as goal

abbrev pub invariant-loop-own : goal.invariant-loop-own
invariant-loop-own l = l.all ≡ map (flat_map names_in_code) (take l.own-index l.own-items)
