use Rattle.std.proofs.Common.{◌++◌, ◌∷◌, [], map, ap, sym, ◌∙◌}
use Rattle.std.specs.Prelude.{flat_map}
use Rattle.std.proofs.lemmas.List.{take_all}
use Rattle.client_registry.specs.Sized.{run_words}
use Rattle.leakage_history.specs.HashedRun.{run_of}
use Rattle.leakage_values.proofs.FrontLaws.{front_then}
use Rattle.leakage_values.proofs.NameLaws.{names-drawings}
use Rattle.leakage_values.specs.DrawnNames.{names_in_code}
use Rattle.leakage_values.specs.Numbered.{numbered}
use Rattle.def_leakage.proofs.Names.{names_drawn}
use Rattle.def_leakage.specs.DrawnValues.{drawings}
use Rattle.leakage_values.proofs.names.drawn_names.Goals as goal

pub loop-own-preserved : goal.loop-own-preserved
loop-own-preserved c =
    c.in_ok-push.ensures.ok
    ∙ (λ j. c.loop-own.invariant j ++ (c.in_ok-names_of.ensures ∙ ap (flat_map names_in_code) c.as_slice.ensures) j ∷ [])
    ∙ sym (front_then (flat_map names_in_code) c.as_slice-own-items.result.now c.loop-own.own-index c.own-item.result c.loop-own-test.true c.own-item.is)

pub returns : goal.returns
returns c o is =
    let words = run_words (run_of c.args.history.now) in
    c.loop-own.invariant
    ∙ ap (map (flat_map names_in_code)) (take_all c.loop-own.own-index c.as_slice-own-items.result.now c.loop-own-test.false ∙ c.as_slice-own-items.ensures ∙ c.in_ok-drawings.ensures o is)
    ∙ names-drawings words (drawings o (run_of c.args.history.now))
    ∙ ap (map (map (numbered words))) (names_drawn o (run_of c.args.history.now))
