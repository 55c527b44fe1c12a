use Rattle.std.proofs.Common.{◌+◌, ◌%◌, ◌^◌, ap, ◌∙◌}
use Rattle.std.specs.Prelude.{flat_map, sum}
use Rattle.std.proofs.lemmas.List.{take_all}
use Rattle.leakage_draws.proofs.SumLaws.{one_value}
use Rattle.leakage_draws.specs.Given.{given}
use Rattle.leakage_draws.proofs.counted.sum_of.Goals as goal

pub loop-name-preserved : goal.loop-name-preserved
loop-name-preserved c =
    one_value (given c.args.sheet.now) c.args.names.now c.args.start c.loop-name.name-index _ c.loop-name.total c.added-total.result c.loop-name-test.true c.loop-name.invariant
    (c.added-total.ensures ∙ ap (λ v. (c.loop-name.total + sum v) % 2 ^ 64) c.in_ok-value_in.ensures)

pub returns : goal.returns
returns c =
    c.loop-name.invariant ∙ ap (λ names. (c.args.start + sum (flat_map (given c.args.sheet.now) names)) % 2 ^ 64) (take_all c.loop-name.name-index c.args.names.now c.loop-name-test.false)
