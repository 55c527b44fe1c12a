use Rattle.std.proofs.Common.{◌≡◌, take}
use Rattle.std.specs.Prelude.{flat_map}
use Rattle.leakage_values.specs.DrawnNames.{names_in_code}
use Rattle.leakage_values.proofs.names.names_of.Given as goal

abbrev pub invariant-loop-drawing : goal.invariant-loop-drawing
invariant-loop-drawing l = l.names ≡ flat_map names_in_code (take l.drawing-index l.drawings)
