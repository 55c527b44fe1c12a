use Rattle.std.proofs.Common.{◌∙◌}
use Rattle.sse_model.specs.Positions.{block_text}
use Rattle.two_level.specs.Laid.{laid}
use Rattle.leakage_plaintexts.proofs.MoreTexts.{more-range}
use Rattle.leakage_plaintexts.proofs.laid_texts.push_blocks_of.Goals as goal

pub loop-i-preserved : goal.loop-i-preserved
loop-i-preserved c =
    c.in_ok-push.ensures.ok
    ∙ more-range (λ i. block_text i (laid c.args.shape c.args.ranks.now c.args.ids.now)) c.args.texts.now c.loop-i.texts c.loop-i.i c.in_ok-clear_block.field-0 c.loop-i.invariant c.in_ok-clear_block.ensures
