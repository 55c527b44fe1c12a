use Rattle.std.proofs.Common.{◌≡◌, ◌+◌, ◌<◌, ◌++◌, length, get_or, take, sym, ◌∙◌, append_assoc, arith}
use Rattle.std.specs.Int.{w32, to_be_bytes}
use Rattle.std.specs.List.{flat_map}
use Rattle.std.proofs.lemmas.Option.{get_or_from_slice_get}
use Rattle.client_registry.specs.Documents.{words_of}
use Rattle.client_registry.specs.Numbered.{document_by}
use Rattle.client_records.specs.Records.{document_field}
use Rattle.client_records.proofs.Sizes.{fits_more, length-more, put_more}
use Rattle.client_records.proofs.record_bytes.put_documents.Goals as goal

pub put_document-requires-clause-room : goal.put_document-requires-clause-room
put_document-requires-clause-room c =
    let docs = c.args.docs.now.documents in
    let i = c.loop-i.i in
    let d = document_by (words_of docs) c.get.result in
    let lt : i < length docs = omega arith in
    let is : get_or docs i d ≡ d = get_or_from_slice_get docs i d d c.get.ensures.document in
    omega (arith, c.requires, c.loop-i.invariant.len, c.loop-i.invariant.room, fits_more document_field docs i d d lt is)

pub loop-i-preserved : goal.loop-i-preserved
loop-i-preserved c =
    let docs = c.args.docs.now.documents in
    let i = c.loop-i.i in
    let d = document_by (words_of docs) c.get.result in
    let lt : i < length docs = omega arith in
    let is : get_or docs i d ≡ d = get_or_from_slice_get docs i d d c.get.ensures.document in
    let start = c.args.out.now.items in
    let count = to_be_bytes w32 (length docs) in
    record {
      items =
          put_more document_field docs i d d lt is (start ++ count) c.loop-i.out.items c.put_document.new.out.items c.put_document.ensures.items
          (c.loop-i.invariant.items ∙ sym (append_assoc start count (flat_map document_field (take i docs))))
          ∙ append_assoc start count (flat_map document_field (take (i + 1) docs));
      len = omega (arith, c.put_document.ensures.len, c.loop-i.invariant.len, length-more document_field docs i d d lt is);
      room = omega (arith, c.put_document.ensures.room, c.loop-i.invariant.room);
    }
