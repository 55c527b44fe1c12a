use Rattle.std.proofs.Common.{◌≡◌, ℕ, ◌<◌, List, [], ◌∷◌, ◌++◌, length, map, sym, ap, subst, ◌∙◌, arith}
use Rattle.std.specs.Prelude.{All}
use Rattle.std.specs.List.{flat_map}
use Rattle.std.proofs.lemmas.List.{length-map, map-append}
use Rattle.std.proofs.lemmas.List.Elements.{All-push}
use Rattle.client_registry.specs.WordBytes.{word_bytes}
use Rattle.client_records.specs.Records.{word_field}
use Rattle.client_records.specs.ReaderFaults.{IsWord}
use Rattle.client_records.proofs.Absent.{no_words, one_more}
use Rattle.client_records.proofs.documents.read_words.Goals as goal

pub returns-in_err-read_word-clause-none : goal.returns-in_err-read_word-clause-none
returns-in_err-read_word-clause-none c =
    let done = map word_bytes c.loop.words.items in
    let lt : length done < c.args.count = omega (arith, length-map {B = List ℕ} c.loop.words.items word_bytes, c.loop.words.ok.0, c.loop.invariant.count, c.loop-test.true) in
    λ _. no_words c.args.count c.args.unread.now c.loop.unread done c.loop.invariant.read c.loop.invariant.each lt c.in_err-read_word.ensures.none

pub loop-preserved : goal.loop-preserved
loop-preserved c =
    let done = map word_bytes c.loop.words.items in
    let word = word_bytes c.in_ok-read_word.field-0 in
    let grown : map word_bytes c.push_reserved.new.self.items ≡ done ++ word ∷ [] =
    ap (map word_bytes) c.push_reserved.ensures.items ∙ map-append word_bytes c.loop.words.items (c.in_ok-read_word.field-0 ∷ []) in
    record {
      read =
          one_more word_field c.args.unread.now c.loop.unread c.read_word.new.unread done word c.loop.invariant.read c.in_ok-read_word.ensures.read
          ∙ ap (λ (ws : List (List ℕ)). flat_map word_field ws ++ c.read_word.new.unread) (sym grown);
      count = omega (arith, c.push_reserved.ensures.len, c.loop.invariant.count);
      room = omega (arith, c.push_reserved.ensures.capacity, c.loop.invariant.room);
      each = subst (All IsWord) (sym grown) (All-push IsWord done word c.loop.invariant.each c.in_ok-read_word.ensures.word);
    }
