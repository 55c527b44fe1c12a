use Rattle.std.proofs.Common.{◌<◌, length, arith}
use Rattle.std.proofs.lemmas.Option.{get_or_from_slice_get}
use Rattle.client_registry.proofs.DistinctLaws.{IsDistinct-words}
use Rattle.client_registry.specs.Documents.{words_of}
use Rattle.client_registry.specs.Numbered.{document_by}
use Rattle.leakage_values.proofs.ListedLaws.{lists-document}
use Rattle.leakage_values.proofs.listed.list_setup.Goals as goal

pub list_document-requires-clause-differ : goal.list_document-requires-clause-differ
list_document-requires-clause-differ c = IsDistinct-words _ c.get-doc.ensures.valid.accepted

pub loop-i-preserved : goal.loop-i-preserved
loop-i-preserved c w =
    let docs = c.args.docs.now.documents in
    let i = c.loop-i.i in
    let d = document_by (words_of docs) c.get-doc.result in
    let within : i < length docs = omega (arith, c.len-i-end.ensures.len, c.loop-i-test.true) in
    lists-document c.loop-i.table.entries c.list_document.new.table.entries docs i d w within (get_or_from_slice_get docs i d d c.get-doc.ensures.document)
    (c.loop-i.invariant w) c.in_ok-list_document.ensures
