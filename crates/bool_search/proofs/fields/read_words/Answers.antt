use Rattle.std.proofs.Common.{◌∙◌, sym, ap, arith, length-append}
use Rattle.std.specs.Prelude.{map, option_map, length, take, ◌∷◌, [], Some}
use Rattle.client_registry.specs.WordBytes.{word_bytes}
use Rattle.client_registry.specs.WordRule.{word_refusal}
use Rattle.bool_search.specs.declared.fault.QueryFault.TheVariants.{BadWord}
use Rattle.bool_search.specs.Fields.{operands}
use Rattle.bool_search.specs.Refused.{first_bad_word}
use Rattle.bool_search.proofs.FieldLaws.{words_next-some, words_next-none, operands_next-some, operands_next-none, good_word-more, bad_word-at, refusal_is}
use Rattle.bool_search.proofs.fields.read_words.Goals as goal
use Rattle.bool_search.proofs.fields.read_words.Goals.{in-Some+in-Ok+in_ok-push_if_new_word-in-Ok, in_default}

pub returns-in-Err-clause-bad : goal.returns-in-Err-clause-bad
returns-in-Err-clause-bad c = λ some.
    bad_word-at (λ field. field.now) c.args.fields.now c.fields.field-index _ c.in-Some.operand.now c.in-Err.fault c.fields-test.true
    (sym c.operand.ensures ∙ ap (option_map (λ word. word.now)) c.in-Some.is) c.fields.invariant.good
    (refusal_is (word_refusal c.in-Some.operand.now) c.in-Err.fault c.read.result c.in-Err.is c.read.ensures.refused c.read.ensures.accepted)
    ∙ ap (λ n. Some (BadWord n c.in-Err.fault)) (sym c.fields.invariant.position)

pub fields-preserved : goal.fields-preserved
fields-preserved c = record {
  words = elim c.match-operand.branch [
    | in-Some+in-Ok+in_ok-push_if_new_word-in-Ok w ↦
        ap (λ words. map word_bytes words.items) w.words-is
        ∙ words_next-some (λ field. field.now) c.args.fields.now c.fields.field-index _ (word_bytes w.in-Ok.word) _ _ c.fields-test.true c.fields.invariant.words
        (sym c.operand.ensures ∙ ap (option_map (λ word. word.now)) w.in-Some.is ∙ ap (λ bytes. Some bytes) (sym w.in-Ok.ensures.ok))
        w.in_ok-push_if_new_word-in-Ok.ensures
    | in_default w ↦
        ap (λ words. map word_bytes words.items) w.words-is
        ∙ words_next-none (λ field. field.now) c.args.fields.now c.fields.field-index _ _ c.fields-test.true c.fields.invariant.words
        (sym c.operand.ensures ∙ ap (option_map (λ word. word.now)) w.in_default.is)
  ];
  good = elim c.match-operand.branch [
    | in-Some+in-Ok+in_ok-push_if_new_word-in-Ok w ↦
        ap (first_bad_word 0) (operands_next-some (λ field. field.now) c.args.fields.now c.fields.field-index _ w.in-Some.operand.now c.fields-test.true
        (sym c.operand.ensures ∙ ap (option_map (λ word. word.now)) w.in-Some.is))
        ∙ good_word-more (operands (map (λ field. field.now) (take c.fields.field-index c.args.fields.now))) w.in-Some.operand.now c.fields.invariant.good
        (ap word_refusal (sym w.in-Ok.ensures.ok) ∙ w.in-Ok.word.is_word)
    | in_default w ↦
        ap (first_bad_word 0) (operands_next-none (λ field. field.now) c.args.fields.now c.fields.field-index _ c.fields-test.true
        (sym c.operand.ensures ∙ ap (option_map (λ word. word.now)) w.in_default.is))
        ∙ c.fields.invariant.good
  ];
  position = elim c.match-operand.branch [
    | in-Some+in-Ok+in_ok-push_if_new_word-in-Ok w ↦
        let now = map (λ field. field.now) (take c.fields.field-index c.args.fields.now) in
        let more = operands_next-some (λ field. field.now) c.args.fields.now c.fields.field-index _ w.in-Some.operand.now c.fields-test.true
        (sym c.operand.ensures ∙ ap (option_map (λ word. word.now)) w.in-Some.is) in
        omega (arith, w.position-is, c.fields.invariant.position, ap length more, length-append (operands now) (w.in-Some.operand.now ∷ []))
    | in_default w ↦
        let same = operands_next-none (λ field. field.now) c.args.fields.now c.fields.field-index _ c.fields-test.true
        (sym c.operand.ensures ∙ ap (option_map (λ word. word.now)) w.in_default.is) in
        w.position-is ∙ c.fields.invariant.position ∙ sym (ap length same)
  ];
  within = elim c.match-operand.branch [
    | in-Some+in-Ok+in_ok-push_if_new_word-in-Ok w ↦ omega (arith, w.position-is, c.fields.invariant.within)
    | in_default w ↦ omega (arith, w.position-is, c.fields.invariant.within)
  ];
}
