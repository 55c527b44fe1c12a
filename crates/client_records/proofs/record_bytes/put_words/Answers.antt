use Rattle.std.proofs.Common.{◌≡◌, ℕ, ◌<◌, List, [], length, map, get_or, arith}
use Rattle.std.proofs.lemmas.List.{length-map}
use Rattle.client_registry.specs.WordBytes.{word_bytes}
use Rattle.client_records.specs.Records.{word_field}
use Rattle.client_records.proofs.Sizes.{fits_more, length-more, put_more, word_at}
use Rattle.client_records.proofs.record_bytes.put_words.Goals as goal

pub put_word-requires : goal.put_word-requires
put_word-requires c =
    let words = map word_bytes c.args.words.now in
    let i = c.loop-word.word-index in
    let word = word_bytes c.word-item.result in
    let lt : i < length words = omega (arith, c.loop-word-test.true, length-map {B = List ℕ} c.args.words.now word_bytes) in
    let is : get_or words i [] ≡ word = word_at c.args.words.now i c.word-item.result c.loop-word-test.true c.word-item.is in
    omega (arith, c.requires, c.loop-word.invariant.len, c.loop-word.invariant.room, fits_more word_field words i word [] lt is)

pub loop-word-preserved : goal.loop-word-preserved
loop-word-preserved c =
    let words = map word_bytes c.args.words.now in
    let i = c.loop-word.word-index in
    let word = word_bytes c.word-item.result in
    let lt : i < length words = omega (arith, c.loop-word-test.true, length-map {B = List ℕ} c.args.words.now word_bytes) in
    let is : get_or words i [] ≡ word = word_at c.args.words.now i c.word-item.result c.loop-word-test.true c.word-item.is in
    record {
      items = put_more word_field words i word [] lt is c.args.out.now.items c.loop-word.out.items c.put_word.new.out.items c.put_word.ensures.items c.loop-word.invariant.items;
      len = omega (arith, c.put_word.ensures.len, c.loop-word.invariant.len, length-more word_field words i word [] lt is);
      room = omega (arith, c.put_word.ensures.room, c.loop-word.invariant.room);
    }
