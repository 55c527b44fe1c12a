use Rattle.std.proofs.Common.{◌≡◌, ℕ, ◌<◌, List, [], length, get_or, arith}
use Rattle.std.specs.Prelude.{slice_index_or}
use Rattle.std.proofs.lemmas.List.{length-map}
use Rattle.client_registry.specs.Documents.{words_of}
use Rattle.client_registry.specs.Numbered.{words_by_number}
use Rattle.client_registry.specs.WordBytes.{word_bytes}
use Rattle.client_records.specs.Records.{word_field}
use Rattle.client_records.proofs.Sizes.{fits_more, length-more, numbered_at, put_more}
use Rattle.client_records.proofs.record_bytes.put_numbered.Goals as goal

pub put_word-requires : goal.put_word-requires
put_word-requires c =
    let known = words_of c.args.docs.now.documents in
    let words = words_by_number known c.args.numbers.now in
    let i = c.loop-number.number-index in
    let word = word_bytes c.word.result.now in
    let lt : i < length words = omega (arith, c.loop-number-test.true, length-map {B = List ℕ} c.args.numbers.now (λ (n : ℕ). slice_index_or known n [])) in
    let is : get_or words i [] ≡ word = numbered_at known c.args.numbers.now i word c.loop-number-test.true c.word.ensures in
    omega (arith, c.requires.room, c.loop-number.invariant.len, c.loop-number.invariant.room, fits_more word_field words i word [] lt is)

pub loop-number-preserved : goal.loop-number-preserved
loop-number-preserved c =
    let known = words_of c.args.docs.now.documents in
    let words = words_by_number known c.args.numbers.now in
    let i = c.loop-number.number-index in
    let word = word_bytes c.word.result.now in
    let lt : i < length words = omega (arith, c.loop-number-test.true, length-map {B = List ℕ} c.args.numbers.now (λ (n : ℕ). slice_index_or known n [])) in
    let is : get_or words i [] ≡ word = numbered_at known c.args.numbers.now i word c.loop-number-test.true c.word.ensures in
    record {
      items = put_more word_field words i word [] lt is c.args.out.now.items c.loop-number.out.items c.put_word.new.out.items c.put_word.ensures.items c.loop-number.invariant.items;
      len = omega (arith, c.put_word.ensures.len, c.loop-number.invariant.len, length-more word_field words i word [] lt is);
      room = omega (arith, c.put_word.ensures.room, c.loop-number.invariant.room);
    }
