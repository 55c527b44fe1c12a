use Rattle.std.proofs.Common.{◌≡◌, ℕ, ◌<◌, List, ◌++◌, ◌∷◌, [], true, length, map, take, sym, ap, subst, ◌∙◌, arith}
use Rattle.std.specs.Prelude.{All, is_ok}
use Rattle.std.specs.List.{list_any}
use Rattle.std.specs.Str.{bytes_eq}
use Rattle.std.proofs.lemmas.Bool.{true≢false}
use Rattle.std.proofs.Math.Seq.{take-append_seam}
use Rattle.std.proofs.lemmas.List.{length-append, length-map, map_more, take_all}
use Rattle.std.proofs.lemmas.List.Elements.{All-push, All-weaker}
use Rattle.std.proofs.lemmas.Option.{slice_get_within}
use Rattle.client_registry.specs.Numbered.{words_by_number}
use Rattle.client_registry.specs.Tally.{counts_of}
use Rattle.client_registry.specs.WordBytes.{word_bytes}
use Rattle.client_registry.specs.WordTable.{table_words}
use Rattle.client_registry.proofs.NumberLaws.{words_by_number-grown, words_by_number-push}
use Rattle.client_registry.proofs.TableLaws.{numbered_at, table_given, table_numbered_still, GivesNumbers-trans}
use Rattle.client_registry.proofs.word_table.number_all.Goals as goal

pub returns-in_err-number-clause-more : goal.returns-in_err-number-clause-more
returns-in_err-number-clause-more g c =
    GivesNumbers-trans (counts_of c.args.words.now.entries) (counts_of c.loop-word.words.entries) (counts_of c.number.new.words.entries) c.loop-word.invariant.more c.number.ensures.more

pub returns-in_err-number-clause-succeeds : goal.returns-in_err-number-clause-succeeds
returns-in_err-number-clause-succeeds g c =
    λ all.
    let word = c.word-item.result in
    let known = numbered_at word_bytes c.args.of.now (table_words c.args.words.now.entries) c.loop-word.word-index word c.loop-word-test.true c.word-item.is all in
    let still = table_numbered_still word_bytes c.args.words.now.entries c.loop-word.words.entries c.loop-word.invariant.more (word_bytes word) known in
    let ok : is_ok c.number.result ≡ true = c.number.ensures.succeeds still in
    absurd (true≢false (sym ok ∙ ap is_ok c.in_err-number.was))

pub loop-word-preserved : goal.loop-word-preserved
loop-word-preserved g c =
    let es = c.loop-word.words.entries in
    let fs = c.number.new.words.entries in
    let of = c.args.of.now in
    let i = c.loop-word.word-index in
    let word = c.word-item.result in
    let bs = word_bytes word in
    let n = c.in_ok-number.field-0 in
    let numbers = c.loop-word.numbers.items in
    let had = c.loop-word.invariant in
    let more = map_more word_bytes of i word c.loop-word-test.true ∙ ap (λ w. map word_bytes (take i of) ++ word_bytes w ∷ []) (sym c.word-item.is) in
    let given = table_given word_bytes es fs c.number.ensures.more in
    let stays = ap (take (length (table_words es))) given ∙ take-append_seam (table_words es) c.number.ensures.more.0 in
    let es_len = length-map {B = List ℕ} es (λ e. word_bytes e.0) in
    let fs_len = length-map {B = List ℕ} fs (λ e. word_bytes e.0) in
    let grows = length-append (table_words es) c.number.ensures.more.0 in
    let in_es : All (λ m. m < length (table_words es)) numbers = All-weaker (λ m. m < length es) (λ m. m < length (table_words es)) (λ m lt. omega (arith, es_len, lt)) numbers had.within in
    let in_fs : All (λ m. m < length fs) numbers = All-weaker (λ m. m < length es) (λ m. m < length fs) (λ m lt. omega (arith, es_len, fs_len, grows, ap length given, lt)) numbers had.within in
    let n_within : n < length fs = omega (arith, slice_get_within (table_words fs) n bs c.in_ok-number.ensures.number, fs_len) in
    record {
      few = c.number.ensures.few;
      more = GivesNumbers-trans (counts_of c.args.words.now.entries) (counts_of es) (counts_of fs) had.more c.number.ensures.more;
      differ = λ differ. c.number.ensures.differ (had.differ differ);
      hasher = c.number.ensures.hasher ∙ had.hasher;
      numbered =
          let before = All-weaker (λ w. list_any (bytes_eq w) (table_words es) ≡ true) (λ w. list_any (bytes_eq w) (table_words fs) ≡ true) (table_numbered_still word_bytes es fs c.number.ensures.more) (map word_bytes (take i of)) had.numbered in
          subst (All (λ w. list_any (bytes_eq w) (table_words fs) ≡ true)) (sym more) (All-push (λ w. list_any (bytes_eq w) (table_words fs) ≡ true) (map word_bytes (take i of)) bs before c.in_ok-number.ensures.numbered);
      numbers =
          ap (words_by_number (table_words fs)) c.push.ensures.items
          ∙ words_by_number-push (table_words fs) numbers n bs c.in_ok-number.ensures.number
          ∙ ap (λ vs. vs ++ bs ∷ []) (words_by_number-grown (table_words es) (table_words fs) stays numbers in_es ∙ had.numbers)
          ∙ sym more;
      within = subst (All (λ m. m < length fs)) (sym c.push.ensures.items) (All-push (λ m. m < length fs) numbers n in_fs n_within);
      count = omega (arith, c.push.ensures.len, had.count);
    }

pub returns-clause-numbered : goal.returns-clause-numbered
returns-clause-numbered g c =
    subst (λ of. All (λ w. list_any (bytes_eq w) (table_words c.loop-word.words.entries) ≡ true) (map word_bytes of))
    (take_all c.loop-word.word-index c.args.of.now c.loop-word-test.false) c.loop-word.invariant.numbered

pub returns-clause-numbers : goal.returns-clause-numbers
returns-clause-numbers g c = c.loop-word.invariant.numbers ∙ ap (map word_bytes) (take_all c.loop-word.word-index c.args.of.now c.loop-word-test.false)
