use Rattle.std.proofs.Common.{◌∙◌}
use Rattle.leakage_values.proofs.More.{more-range}
use Rattle.leakage_values.specs.SetupDrawings.{block_by_number}
use Rattle.leakage_values.proofs.setup.push_blocks_of.Goals as goal

pub loop-i-preserved : goal.loop-i-preserved
loop-i-preserved c = c.in_ok-push.ensures.ok ∙ more-range (block_by_number c.args.epoch c.args.word) c.args.drawings.now c.loop-i.drawings c.loop-i.i c.block.result c.loop-i.invariant c.block.ensures
