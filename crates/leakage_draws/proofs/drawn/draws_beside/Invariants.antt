use Rattle.std.proofs.Common.{◌≡◌, map, take}
use Rattle.leakage_draws.specs.Given.{draw_given}
use Rattle.leakage_draws.specs.Beside.{beside}
use Rattle.leakage_frames.specs.Views.{draw_view}
use Rattle.leakage_draws.proofs.drawn.draws_beside.Given as goal

abbrev pub invariant-loop-i : goal.invariant-loop-i
invariant-loop-i l = map draw_view l.draws ≡ beside (draw_given l.sheet) (take l.i l.drawings) (take l.i l.clears)
