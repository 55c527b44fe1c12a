use Rattle.std.proofs.Common.{◌∙◌}
use Rattle.leakage_values.proofs.More.{more-range}
use Rattle.leakage_values.specs.SetupDrawings.{dummy_block_drawing}
use Rattle.leakage_values.proofs.setup.push_dummy_blocks.Goals as goal

pub loop-j-preserved : goal.loop-j-preserved
loop-j-preserved c = c.in_ok-push.ensures.ok ∙ more-range (dummy_block_drawing c.args.epoch) c.args.drawings.now c.loop-j.drawings c.loop-j.j c.dummy_block.result c.loop-j.invariant c.dummy_block.ensures
