use Rattle.std.proofs.Common.{◌≡◌, ◌++◌, map, take}
use Rattle.leakage_history.specs.Commands.{command_of}
use Rattle.leakage_draws.specs.Clears.{clear_by}
use Rattle.leakage_draws.specs.Given.{draw_given}
use Rattle.leakage_draws.specs.Beside.{beside}
use Rattle.leakage_frames.specs.Views.{draw_view}
use Rattle.leakage_draws.proofs.drawn.push_later.Given as goal

abbrev pub invariant-loop-k : goal.invariant-loop-k
invariant-loop-k l =
    map (map draw_view) l.all ≡ map (map draw_view) l.initial.all ++ beside (λ ds c. map (λ d. draw_given l.sheet d (clear_by c)) ds) (take l.k l.drawings) (take l.k (map command_of l.commands))
