use Rattle.std.proofs.Common.{◌++◌, ◌∷◌, [], get_or, map, take, sym, ap, ◌∙◌, arith}
use Rattle.std.proofs.lemmas.List.{map-append}
use Rattle.std.proofs.lemmas.Option.{slice_get-get_or}
use Rattle.client_registry.specs.Numbered.{words_by_number}
use Rattle.client_registry.specs.Registered.{known_words}
use Rattle.client_registry.specs.WordBytes.{word_bytes}
use Rattle.client_registry.proofs.NumberLaws.{words_by_number-push}
use Rattle.client_live_docs.proofs.Pushing.{take-one_more}
use Rattle.client_live_docs.proofs.collected.copy_kept.Goals as goal

pub loop-number-preserved : goal.loop-number-preserved
loop-number-preserved c = record {
  words =
      let words = known_words c.args.registry.now in
      let numbers = c.unwrap-kept.result.numbers.now in
      let i = c.loop-number.number-index in
      ap (map word_bytes) c.push_reserved.ensures.items
      ∙ map-append word_bytes c.loop-number.words.items (c.word.result.now ∷ [])
      ∙ ap (λ ws. ws ++ word_bytes c.word.result.now ∷ []) c.loop-number.invariant.words
      ∙ sym (words_by_number-push words (take i numbers) _ _ c.word.ensures)
      ∙ ap (words_by_number words) (sym (take-one_more numbers i (get_or numbers i 0) (slice_get-get_or numbers i 0 c.loop-number-test.true)));
  count = omega (arith, c.push_reserved.ensures.len, c.loop-number.invariant.count);
  room = omega (arith, c.push_reserved.ensures.capacity, c.loop-number.invariant.room);
}
