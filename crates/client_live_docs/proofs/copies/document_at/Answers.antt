use Rattle.std.proofs.Common.{◌++◌, ◌∷◌, [], get_or, map, take, sym, ap, ◌∙◌}
use Rattle.std.proofs.lemmas.List.{map-append}
use Rattle.std.proofs.lemmas.Option.{slice_get-get_or}
use Rattle.client_registry.specs.Documents.{words_of}
use Rattle.client_registry.specs.Numbered.{words_by_number}
use Rattle.client_registry.specs.WordBytes.{word_bytes}
use Rattle.client_registry.proofs.NumberLaws.{words_by_number-push}
use Rattle.client_live_docs.proofs.Pushing.{take-one_more}
use Rattle.client_live_docs.proofs.copies.document_at.Goals as goal

pub loop-number-preserved : goal.loop-number-preserved
loop-number-preserved c =
    let words = words_of c.args.docs.now.documents in
    let numbers = c.get-kept.result.numbers.now in
    let i = c.loop-number.number-index in
    let e = words_by_number-push words (take i numbers) _ _ c.word.ensures in
    ap (map word_bytes) c.in_ok-push.ensures.items
    ∙ map-append word_bytes c.loop-number.words.items (c.word.result.now ∷ [])
    ∙ ap (λ ws. ws ++ word_bytes c.word.result.now ∷ []) c.loop-number.invariant
    ∙ sym e
    ∙ ap (words_by_number words) (sym (take-one_more numbers i (get_or numbers i 0) (slice_get-get_or numbers i 0 c.loop-number-test.true)))
