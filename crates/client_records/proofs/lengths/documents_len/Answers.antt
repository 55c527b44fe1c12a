use Rattle.std.proofs.Common.{◌≡◌, ℕ, ◌<◌, ◌≤◌, List, [], length, get_or, arith}
use Rattle.std.specs.Prelude.{slice_index_or}
use Rattle.std.proofs.lemmas.List.{length-map}
use Rattle.std.proofs.lemmas.Option.{get_or_from_slice_get}
use Rattle.client_registry.specs.Documents.{words_of}
use Rattle.client_registry.specs.Numbered.{document_by}
use Rattle.client_records.specs.Records.{document_field}
use Rattle.client_records.proofs.Once.{few_words}
use Rattle.client_records.proofs.Sizes.{length-more}
use Rattle.client_records.proofs.lengths.documents_len.Goals as goal

pub loop-i-preserved : goal.loop-i-preserved
loop-i-preserved c =
    let docs = c.args.docs.now.documents in
    let known = words_of docs in
    let i = c.loop-i.i in
    let d = document_by known c.get.result in
    let lt : i < length docs = omega (arith, c.loop-i-test.true, c.len-i-end.ensures.len) in
    let is : get_or docs i d ≡ d = get_or_from_slice_get docs i d d c.get.ensures.document in
    let few : length c.get.result.numbers.now ≤ 4096 =
    omega (arith, few_words d.words c.get.ensures.valid.accepted, length-map {B = List ℕ} c.get.result.numbers.now (λ (n : ℕ). slice_index_or known n [])) in
    record {
      len = omega (arith, c.loop-i.invariant.len, length-more document_field docs i d d lt is, c.numbered_len.ensures.len);
      most = omega (arith, c.loop-i.invariant.most, c.numbered_len.ensures.most, few);
    }
