use Rattle.std.proofs.Common.{◌≡◌, ℕ, ◌<◌, List, [], length, map, get_or, ap, arith}
use Rattle.std.proofs.lemmas.List.{length-map}
use Rattle.client_registry.specs.WordBytes.{word_bytes}
use Rattle.client_records.specs.Records.{word_field}
use Rattle.client_records.proofs.Sizes.{length-more, word_at}
use Rattle.client_records.proofs.lengths.words_len.Goals as goal

pub loop-word-preserved : goal.loop-word-preserved
loop-word-preserved c =
    let words = map word_bytes c.args.words.now in
    let i = c.loop-word.word-index in
    let word = word_bytes c.word-item.result in
    let lt : i < length words = omega (arith, c.loop-word-test.true, length-map {B = List ℕ} c.args.words.now word_bytes) in
    let is : get_or words i [] ≡ word = word_at c.args.words.now i c.word-item.result c.loop-word-test.true c.word-item.is in
    record {
      len = omega (arith, c.loop-word.invariant.len, length-more word_field words i word [] lt is, ap length c.bytes.ensures.bytes);
      most = omega (arith, c.loop-word.invariant.most, c.bytes.ensures.within);
    }
