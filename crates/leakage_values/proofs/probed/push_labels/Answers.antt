use Rattle.std.proofs.Common.{◌∙◌}
use Rattle.leakage_values.proofs.More.{more-range}
use Rattle.leakage_values.specs.SetupDrawings.{code_name}
use Rattle.leakage_names.specs.declared.name.NameKind.TheVariants as kinds
use Rattle.leakage_values.proofs.probed.push_labels.Goals as goal

pub loop-counter-preserved : goal.loop-counter-preserved
loop-counter-preserved c =
    c.in_ok-push.ensures.ok
    ∙ more-range (code_name c.args.epoch c.args.word kinds.PlusLabel) c.args.names.now c.loop-counter.names c.loop-counter.counter c.name.result c.loop-counter.invariant c.name.ensures
