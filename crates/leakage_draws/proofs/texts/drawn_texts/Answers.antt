use Rattle.std.proofs.Common.{◌++◌, map, sym, ap, ◌∙◌}
use Rattle.std.specs.Prelude.{flat_map}
use Rattle.std.proofs.lemmas.List.{take_all}
use Rattle.std.proofs.lemmas.List.Folds.{flat_map-map}
use Rattle.leakage_values.proofs.NameLaws.{one_front}
use Rattle.leakage_frames.specs.Views.{draw_view}
use Rattle.def_relabelling.specs.ByTexts.{texts_in}
use Rattle.leakage_draws.proofs.texts.drawn_texts.Goals as goal

pub loop-own-preserved : goal.loop-own-preserved
loop-own-preserved c =
    one_front (λ ds. flat_map texts_in (map draw_view ds)) c.args.draws.now c.loop-own.own-index _ c.loop-own.texts c.push_command.new.texts
    c.loop-own-test.true c.loop-own.invariant
    (c.in_ok-push_command.ensures ∙ ap (λ ds. c.loop-own.texts ++ flat_map texts_in (map draw_view ds)) (c.as_slice.ensures ∙ c.own-item.is))

pub returns : goal.returns
returns c =
    c.loop-own.invariant
    ∙ ap (flat_map (λ ds. flat_map texts_in (map draw_view ds))) (take_all c.loop-own.own-index c.args.draws.now c.loop-own-test.false)
    ∙ sym (flat_map-map (flat_map texts_in) (map draw_view) c.args.draws.now)
