use Rattle.std.proofs.Common.{replicate, ◌∙◌}
use Rattle.leakage_plaintexts.proofs.MoreTexts.{more-range}
use Rattle.leakage_plaintexts.proofs.laid_texts.push_zeros.Goals as goal

pub loop-preserved : goal.loop-preserved
loop-preserved c =
    c.in_ok-push.ensures.ok
    ∙ more-range (λ i. replicate c.args.size 0) c.args.texts.now c.loop.texts c.loop.counter c.in_ok-zeros.field-0 c.loop.invariant c.in_ok-zeros.ensures
