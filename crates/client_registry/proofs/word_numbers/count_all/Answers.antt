use Rattle.std.proofs.Common.{◌+◌, ◌<◌, ◌^◌, ◌++◌, ◌∷◌, [], map, length, sym, ap, subst, ◌∙◌, arith, vec_len}
use Rattle.std.specs.Prelude.{All, fold}
use Rattle.std.proofs.lemmas.List.{length-map, length_push, map-append}
use Rattle.std.proofs.lemmas.List.Elements.{All-push, All-weaker}
use Rattle.std.proofs.lemmas.Option.{slice_get_within}
use Rattle.client_registry.specs.Numbered.{words_by_number}
use Rattle.client_registry.specs.Tally.{counted_up, counts_of}
use Rattle.client_registry.specs.WordBytes.{word_bytes}
use Rattle.client_registry.specs.WordTable.{table_words}
use Rattle.client_registry.proofs.NumberLaws.{table_grows, table_stays, words_by_number-grown, words_by_number-push}
use Rattle.client_registry.proofs.TallyLaws.{counted_up-All, fold-counted_up-push}
use Rattle.client_registry.proofs.word_numbers.count_all.Goals as goal

pub loop-word-preserved : goal.loop-word-preserved
loop-word-preserved c =
    let before = counts_of c.args.words.now.entries in
    let es = c.loop-word.words.entries in
    let fs = c.count_up.new.words.entries in
    let numbers = c.loop-word.numbers.items in
    let n = c.count_up.result in
    let done = c.loop-word.yielded in
    let word = c.in-Some.word in
    let all = vec_len c.args.of in
    let len = length_push done word in
    let had = c.loop-word.invariant in
    let counted = c.count_up.ensures.counted in
    let grows = table_grows word_bytes es fs (word_bytes word) counted in
    let es_len = length-map es (λ e. word_bytes e.0) in
    let in_es : All (λ m. m < length (table_words es)) numbers = All-weaker (λ m. m < length es) (λ m. m < length (table_words es)) (λ m lt. omega (arith, es_len, lt)) numbers had.within in
    let in_fs : All (λ m. m < length fs) numbers = All-weaker (λ m. m < length es) (λ m. m < length fs) (λ m lt. omega (arith, grows.0, lt)) numbers had.within in
    let n_within : n < length fs = omega (arith, slice_get_within (table_words fs) n (word_bytes word) c.count_up.ensures.number, length-map fs (λ e. word_bytes e.0)) in
    record {
      counted =
          counted
          ∙ ap (λ gs. counted_up gs (word_bytes word)) had.counted
          ∙ sym (fold-counted_up-push before (map word_bytes done) (word_bytes word))
          ∙ ap (fold counted_up before) (sym (map-append word_bytes done (word ∷ [])));
      numbers =
          ap (words_by_number (table_words fs)) c.push_reserved.ensures.items
          ∙ words_by_number-push (table_words fs) numbers n (word_bytes word) c.count_up.ensures.number
          ∙ ap (λ ws. ws ++ word_bytes word ∷ []) (words_by_number-grown (table_words es) (table_words fs) (table_stays word_bytes es fs (word_bytes word) counted) numbers in_es ∙ had.numbers)
          ∙ sym (map-append word_bytes done (word ∷ []));
      within = subst (All (λ m. m < length fs)) (sym c.push_reserved.ensures.items) (All-push (λ m. m < length fs) numbers n in_fs n_within);
      room = omega (arith, len, c.count_up.ensures.spare, had.room);
      small = λ k d lt.
          let more = counted_up-All (λ m. m + all < 2 ^ 32 + length done) (λ m. m + all < 2 ^ 32 + length (done ++ word ∷ [])) (λ m h. omega (arith, len)) (λ m h. omega (arith, len)) (omega (arith, len, c.requires.few)) (counts_of es) (word_bytes word) had.small in
          subst (All (λ e. e.1 + all < 2 ^ 32 + length (done ++ word ∷ []))) (sym counted) more k d lt;
      few = omega (arith, len, grows.1, had.few);
      count = omega (arith, len, c.push_reserved.ensures.len, had.count);
      capacity = omega (arith, c.push_reserved.ensures.capacity, had.capacity);
      hasher = c.count_up.ensures.hasher ∙ had.hasher;
    }
