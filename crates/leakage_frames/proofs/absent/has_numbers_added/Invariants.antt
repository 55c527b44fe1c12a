use Rattle.std.proofs.Common.{◌≡◌, map, drop}
use Rattle.std.specs.Prelude.{is_some}
use Rattle.sse_simulator.specs.Simulator.{numbers_added}
use Rattle.leakage_frames.specs.MadeFrames.{earlier_view}
use Rattle.leakage_frames.specs.Views.{word_view}
use Rattle.leakage_frames.proofs.absent.has_numbers_added.Given as goal

abbrev pub invariant-loop-word : goal.invariant-loop-word
invariant-loop-word l =
    is_some (numbers_added (earlier_view l.earlier) (map word_view (drop l.word-index l.words)))
    ≡ is_some (numbers_added (earlier_view l.earlier) (map word_view l.words))
