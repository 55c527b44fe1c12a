use Rattle.std.proofs.Common.{rules, ◌≡◌, ◌<◌, List, ◌++◌, length, Err, sym, ap, ◌∙◌, arith}
use Rattle.std.specs.List.{flat_map}
use Rattle.std.proofs.lemmas.List.{length_push}
use Rattle.client_registry.specs.Document.{Document}
use Rattle.client_records.specs.Records.{document_field}
use Rattle.client_records.specs.declared.fault.ReadFault.TheVariants.{BadRecord, NoMemory}
use Rattle.client_records.proofs.Absent.{no_documents, no_documents_refused, one_more}
use Rattle.client_records.proofs.MemoryLaws.{begins_with}
use Rattle.client_records.proofs.documents.read_documents.Goals as goal

pub returns-in_err-doc-clause-none : goal.returns-in_err-doc-clause-none
returns-in_err-doc-clause-none c =
    λ bad. let was : c.read_document.result ≡ Err BadRecord = search rules in
    let lt : length c.loop-alloc.docs.documents < c.args.count = omega (arith, c.len.ensures.len, c.loop-alloc-test.true) in
    no_documents c.args.count c.args.unread.now c.loop-alloc.unread c.loop-alloc.docs.documents c.loop-alloc.invariant.read c.len.ensures.valid.are_documents lt (c.read_document.ensures.none was)

pub returns-in_err-collect-clause-none : goal.returns-in_err-collect-clause-none
returns-in_err-collect-clause-none c =
    λ bad. let was : c.collect.result ≡ Err BadRecord = search rules in
    let lt : length c.loop-alloc.docs.documents < c.args.count = omega (arith, c.len.ensures.len, c.loop-alloc-test.true) in
    no_documents_refused c.args.count c.args.unread.now c.loop-alloc.unread c.read_document.new.unread c.loop-alloc.docs.documents c.in_ok-doc.doc c.loop-alloc.invariant.read c.len.ensures.valid.are_documents lt
    c.in_ok-doc.ensures.read c.in_ok-doc.ensures.valid (c.collect.ensures.refused was)

pub loop-alloc-preserved : goal.loop-alloc-preserved
loop-alloc-preserved c =
    let done = c.loop-alloc.docs.documents in
    record {
      read =
          one_more document_field c.args.unread.now c.loop-alloc.unread c.read_document.new.unread done c.in_ok-doc.doc c.loop-alloc.invariant.read c.in_ok-doc.ensures.read
          ∙ ap (λ (ds : List Document). flat_map document_field ds ++ c.read_document.new.unread) (sym c.in_ok-collect.ensures.ok);
      count = omega (arith, c.len.ensures.len, c.loop-alloc-test.true, ap length c.in_ok-collect.ensures.ok, length_push done c.in_ok-doc.doc);
      keys = c.collect.ensures.keys ∙ c.loop-alloc.invariant.keys;
    }

pub loop-alloc-init : goal.loop-alloc-init
loop-alloc-init c = record {
  read = ap (λ (ds : List Document). flat_map document_field ds ++ c.args.unread.now) (sym c.new-docs.ensures.none);
  count = omega (arith, ap length c.new-docs.ensures.none);
  keys = c.new-docs.ensures.keys;
}

pub returns-clause-read : goal.returns-clause-read
returns-clause-read c = c.loop-alloc.invariant.read

pub returns-clause-documents : goal.returns-clause-documents
returns-clause-documents c = record {
  count_is = omega (arith, c.len.ensures.len, c.loop-alloc-test.false, c.loop-alloc.invariant.count);
  collected = c.len.ensures.valid;
}

pub returns-clause-keys : goal.returns-clause-keys
returns-clause-keys c = c.loop-alloc.invariant.keys

pub returns-in_err-doc-clause-memory : goal.returns-in_err-doc-clause-memory
returns-in_err-doc-clause-memory c =
    λ memory. let was : c.read_document.result ≡ Err NoMemory = search rules in
    record {
      before = c.loop-alloc.docs.documents;
      rest = c.loop-alloc.unread;
      collected = c.len.ensures.valid;
      fewer = omega (arith, c.len.ensures.len, c.loop-alloc-test.true);
      are = c.loop-alloc.invariant.read;
      begins = c.read_document.ensures.memory was;
    }

pub returns-in_err-collect-clause-memory : goal.returns-in_err-collect-clause-memory
returns-in_err-collect-clause-memory c = λ memory. record {
  before = c.loop-alloc.docs.documents;
  rest = c.loop-alloc.unread;
  collected = c.len.ensures.valid;
  fewer = omega (arith, c.len.ensures.len, c.loop-alloc-test.true);
  are = c.loop-alloc.invariant.read;
  begins = begins_with c.loop-alloc.unread c.read_document.new.unread c.in_ok-doc.doc c.in_ok-doc.ensures.valid c.in_ok-doc.ensures.read;
}
