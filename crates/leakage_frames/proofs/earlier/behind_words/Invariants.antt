use Rattle.std.proofs.Common.{◌≡◌, map, drop}
use Rattle.leakage_frames.specs.MadeFrames.{draws_left}
use Rattle.leakage_frames.specs.Views.{draw_view, word_view}
use Rattle.leakage_frames.proofs.earlier.behind_words.Given as goal

abbrev pub invariant-loop-word : goal.invariant-loop-word
invariant-loop-word l =
    draws_left (map word_view (drop l.word-index l.words)) (map draw_view l.rest) ≡ draws_left (map word_view l.words) (map draw_view l.draws)
