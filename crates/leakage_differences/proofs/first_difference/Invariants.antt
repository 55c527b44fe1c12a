use Rattle.std.proofs.Common.{◌≡◌, map, take}
use Rattle.leakage_frames.specs.Views.{leak_view}
use Rattle.leakage_differences.proofs.first_difference.Given as goal

-- all before is the same
abbrev pub invariant-loop-k : goal.invariant-loop-k
invariant-loop-k l = take l.k (map leak_view l.left) ≡ take l.k (map leak_view l.right)
