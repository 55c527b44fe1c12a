use Rattle.std.proofs.Common.{ap, ◌∙◌}
use Rattle.std.specs.Prelude.{flat_map}
use Rattle.std.proofs.lemmas.List.{take_all}
use Rattle.leakage_values.specs.DrawnNames.{names_in_code}
use Rattle.leakage_values.proofs.NameLaws.{one_front}
use Rattle.leakage_values.proofs.names.names_of.Goals as goal

pub loop-drawing-preserved : goal.loop-drawing-preserved
loop-drawing-preserved c =
    one_front names_in_code c.args.drawings.now c.loop-drawing.drawing-index _ c.loop-drawing.names c.push_names.new.names
    c.loop-drawing-test.true c.loop-drawing.invariant c.in_ok-push_names.ensures

pub returns : goal.returns
returns c = c.loop-drawing.invariant ∙ ap (flat_map names_in_code) (take_all c.loop-drawing.drawing-index c.args.drawings.now c.loop-drawing-test.false)
