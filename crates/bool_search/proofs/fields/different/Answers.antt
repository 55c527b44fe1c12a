use Rattle.std.proofs.Common.{◌∙◌, sym, ap}
use Rattle.std.specs.Prelude.{map, option_map}
use Rattle.bool_search.proofs.FieldLaws.{words_next-some, words_next-none}
use Rattle.bool_search.proofs.fields.different.Goals as goal
use Rattle.bool_search.proofs.fields.different.Goals.{in-Some+in_ok-push_if_new, in_default}

pub fields-preserved : goal.fields-preserved
fields-preserved c = record {
  words = elim c.match-operand.branch [
    | in-Some+in_ok-push_if_new w ↦
        ap (λ words. map (λ word. word.now) words.items) w.words-is
        ∙ words_next-some (λ field. field.now) c.args.fields.now c.fields.field-index _ _ _ _ c.fields-test.true c.fields.invariant.words
        (sym c.operand.ensures ∙ ap (option_map (λ word. word.now)) w.in-Some.is) w.in_ok-push_if_new.ensures
    | in_default w ↦
        ap (λ words. map (λ word. word.now) words.items) w.words-is
        ∙ words_next-none (λ field. field.now) c.args.fields.now c.fields.field-index _ _ c.fields-test.true c.fields.invariant.words
        (sym c.operand.ensures ∙ ap (option_map (λ word. word.now)) w.in_default.is)
  ];
}
