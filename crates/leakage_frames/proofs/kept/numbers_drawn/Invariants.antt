use Rattle.std.proofs.Common.{◌≡◌, ◌++◌, map, drop}
use Rattle.sse_simulator.specs.Simulator as sim
use Rattle.leakage_frames.specs.Views.{draw_view, word_view}
use Rattle.leakage_frames.proofs.kept.numbers_drawn.Given as goal

abbrev pub invariant-loop-word : goal.invariant-loop-word
invariant-loop-word l =
    l.numbers ++ sim.numbers_drawn (map word_view (drop l.word-index l.words)) (map draw_view l.rest)
    ≡ sim.numbers_drawn (map word_view l.words) (map draw_view l.draws)
