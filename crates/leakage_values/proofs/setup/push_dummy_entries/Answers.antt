use Rattle.std.proofs.Common.{◌∙◌}
use Rattle.leakage_values.proofs.More.{more-range}
use Rattle.leakage_values.specs.SetupDrawings.{dummy_entry_drawing}
use Rattle.leakage_values.proofs.setup.push_dummy_entries.Goals as goal

pub loop-i-preserved : goal.loop-i-preserved
loop-i-preserved c = c.in_ok-push.ensures.ok ∙ more-range (dummy_entry_drawing c.args.epoch) c.args.drawings.now c.loop-i.drawings c.loop-i.i c.dummy_entry.result c.loop-i.invariant c.dummy_entry.ensures
