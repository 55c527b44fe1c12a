use Rattle.std.proofs.Common.{◌≡◌, ℕ, ◌<◌, List, [], length, get_or, ap, arith}
use Rattle.std.specs.Prelude.{slice_index_or}
use Rattle.std.proofs.lemmas.List.{length-map}
use Rattle.client_registry.specs.Documents.{words_of}
use Rattle.client_registry.specs.Numbered.{words_by_number}
use Rattle.client_registry.specs.WordBytes.{word_bytes}
use Rattle.client_records.specs.Records.{word_field}
use Rattle.client_records.proofs.Sizes.{length-more, numbered_at}
use Rattle.client_records.proofs.lengths.numbered_len.Goals as goal

pub loop-number-preserved : goal.loop-number-preserved
loop-number-preserved c =
    let known = words_of c.args.docs.now.documents in
    let words = words_by_number known c.args.numbers.now in
    let i = c.loop-number.number-index in
    let word = word_bytes c.word.result.now in
    let lt : i < length words = omega (arith, c.loop-number-test.true, length-map {B = List ℕ} c.args.numbers.now (λ (n : ℕ). slice_index_or known n [])) in
    let is : get_or words i [] ≡ word = numbered_at known c.args.numbers.now i word c.loop-number-test.true c.word.ensures in
    record {
      len = omega (arith, c.loop-number.invariant.len, length-more word_field words i word [] lt is, ap length c.bytes.ensures.bytes);
      most = omega (arith, c.loop-number.invariant.most, c.bytes.ensures.within);
    }
