use Rattle.std.proofs.Common.{map, ap, ◌∙◌}
use Rattle.std.proofs.lemmas.List.{take_all}
use Rattle.leakage_draws.proofs.BesideLaws.{more-mapped}
use Rattle.leakage_draws.specs.Given.{draw_given}
use Rattle.leakage_frames.specs.Views.{draw_view}
use Rattle.leakage_draws.proofs.drawn.draws_under.Goals as goal

pub loop-drawing-preserved : goal.loop-drawing-preserved
loop-drawing-preserved c =
    more-mapped draw_view (λ d. draw_given c.args.sheet.now d c.args.clear.now) c.args.drawings.now c.loop-drawing.drawing-index _ c.loop-drawing.draws _ c.in_ok-draw_of.field-0
    c.loop-drawing-test.true c.loop-drawing.invariant c.in_ok-push.ensures.ok c.in_ok-draw_of.ensures

pub returns : goal.returns
returns c =
    c.loop-drawing.invariant ∙ ap (map (λ d. draw_given c.args.sheet.now d c.args.clear.now)) (take_all c.loop-drawing.drawing-index c.args.drawings.now c.loop-drawing-test.false)
