use Rattle.std.proofs.Common.{◌≡◌, ◌++◌, take}
use Rattle.std.specs.Prelude.{flat_map}
use Rattle.leakage_frames.specs.Views.{draw_view}
use Rattle.def_relabelling.specs.ByTexts.{texts_in}
use Rattle.leakage_draws.proofs.texts.push_command.Given as goal

abbrev pub invariant-loop-draw : goal.invariant-loop-draw
invariant-loop-draw l = l.texts ≡ l.initial.texts ++ flat_map (λ d. texts_in (draw_view d)) (take l.draw-index l.draws)
