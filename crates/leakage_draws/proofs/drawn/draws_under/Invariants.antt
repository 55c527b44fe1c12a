use Rattle.std.proofs.Common.{◌≡◌, map, take}
use Rattle.leakage_draws.specs.Given.{draw_given}
use Rattle.leakage_frames.specs.Views.{draw_view}
use Rattle.leakage_draws.proofs.drawn.draws_under.Given as goal

abbrev pub invariant-loop-drawing : goal.invariant-loop-drawing
invariant-loop-drawing l = map draw_view l.draws ≡ map (λ d. draw_given l.sheet d l.clear) (take l.drawing-index l.drawings)
