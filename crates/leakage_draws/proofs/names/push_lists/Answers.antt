use Rattle.std.proofs.Common.{◌++◌, ap, ◌∙◌}
use Rattle.std.specs.Prelude.{flat_map}
use Rattle.std.proofs.lemmas.List.{take_all}
use Rattle.leakage_values.proofs.More.{more-pieces}
use Rattle.leakage_draws.proofs.names.push_lists.Goals as goal

pub loop-list-preserved : goal.loop-list-preserved
loop-list-preserved c =
    more-pieces (λ ns. ns) c.args.lists.now c.loop-list.list-index _ c.args.names.now c.loop-list.names c.push_names.new.names
    c.loop-list-test.true c.loop-list.invariant (c.in_ok-push_names.ensures ∙ ap (λ ns. c.loop-list.names ++ ns) (c.as_slice.ensures ∙ c.list-item.is))

pub returns : goal.returns
returns c =
    c.loop-list.invariant ∙ ap (λ ls. c.args.names.now ++ flat_map (λ ns. ns) ls) (take_all c.loop-list.list-index c.args.lists.now c.loop-list-test.false)
