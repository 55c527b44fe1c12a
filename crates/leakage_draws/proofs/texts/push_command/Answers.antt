use Rattle.std.proofs.Common.{◌++◌, sym, ap, ◌∙◌}
use Rattle.std.specs.Prelude.{flat_map}
use Rattle.std.proofs.lemmas.List.{take_all}
use Rattle.std.proofs.lemmas.List.Folds.{flat_map-map}
use Rattle.leakage_values.proofs.More.{more-pieces}
use Rattle.leakage_frames.specs.Views.{draw_view}
use Rattle.def_relabelling.specs.ByTexts.{texts_in}
use Rattle.leakage_draws.proofs.texts.push_command.Goals as goal

pub loop-draw-preserved : goal.loop-draw-preserved
loop-draw-preserved c =
    more-pieces (λ d. texts_in (draw_view d)) c.args.draws.now c.loop-draw.draw-index _ c.args.texts.now c.loop-draw.texts c.push_texts.new.texts
    c.loop-draw-test.true c.loop-draw.invariant (c.in_ok-push_texts.ensures ∙ ap (λ d. c.loop-draw.texts ++ texts_in (draw_view d)) c.draw-item.is)

pub returns : goal.returns
returns c =
    c.loop-draw.invariant
    ∙ ap (λ ds. c.args.texts.now ++ flat_map (λ d. texts_in (draw_view d)) ds) (take_all c.loop-draw.draw-index c.args.draws.now c.loop-draw-test.false)
    ∙ ap (λ texts. c.args.texts.now ++ texts) (sym (flat_map-map texts_in draw_view c.args.draws.now))
