use Rattle.std.proofs.Common.{[], ap, ◌∙◌, arith}
use Rattle.std.proofs.lemmas.List.{take_all}
use Rattle.leakage_draws.proofs.BesideLaws.{more-beside}
use Rattle.leakage_draws.specs.Beside.{beside}
use Rattle.leakage_draws.specs.Given.{draw_given}
use Rattle.leakage_frames.specs.Views.{draw_view}
use Rattle.leakage_draws.proofs.drawn.draws_beside.Goals as goal

pub loop-i-preserved : goal.loop-i-preserved
loop-i-preserved c =
    let values = c.args.sheet.now in
    more-beside draw_view (draw_given values) c.args.drawings.now c.args.clears.now c.loop-i.i _ _ [] c.loop-i.draws c.push.new.self c.in_ok-draw_of.field-0
    (omega (arith, c.loop-i-test.true)) (omega (arith, c.loop-i-test.true, c.requires)) c.loop-i.invariant c.in_ok-push.ensures.ok
    (c.in_ok-draw_of.ensures ∙ ap (draw_given values _) (c.as_slice.ensures ∙ c.index-clears-i.is))

pub returns : goal.returns
returns c =
    let n = c.loop-i.i in
    c.loop-i.invariant
    ∙ (λ i. beside (draw_given c.args.sheet.now) (take_all n c.args.drawings.now (omega (arith, c.loop-i-test.false)) i) (take_all n c.args.clears.now (omega (arith, c.loop-i-test.false, c.requires)) i))
