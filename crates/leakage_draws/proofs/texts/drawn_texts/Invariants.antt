use Rattle.std.proofs.Common.{◌≡◌, take, map}
use Rattle.std.specs.Prelude.{flat_map}
use Rattle.leakage_frames.specs.Views.{draw_view}
use Rattle.def_relabelling.specs.ByTexts.{texts_in}
use Rattle.leakage_draws.proofs.texts.drawn_texts.Given as goal

abbrev pub invariant-loop-own : goal.invariant-loop-own
invariant-loop-own l = l.texts ≡ flat_map (λ ds. flat_map texts_in (map draw_view ds)) (take l.own-index l.draws)
