use Rattle.std.proofs.Common.{◌<◌, length, take, get_or, arith, refl}
use Rattle.std.proofs.lemmas.Option.{get_or_from_slice_get}
use Rattle.client_registry.specs.Documents.{words_of}
use Rattle.client_registry.specs.Numbered.{document_by}
use Rattle.index_setup.proofs.ListSteps.{step_first, step_place, step_within, step_holds, step_last}
use Rattle.index_setup.proofs.lists.add_document.Goals as goal

pub loop-number-init : goal.loop-number-init
loop-number-init c = step_first c.args.docs.now.documents (take c.args.i c.args.docs.now.documents) c.get-id.result c.args.ids.now c.args.next.now c.requires.before

pub bounds-next-word : goal.bounds-next-word
bounds-next-word c =
    let docs = c.args.docs.now.documents in
    let doc = document_by (words_of docs) c.get-doc.result in
    step_place docs c.args.i doc c.requires.within (get_or_from_slice_get docs c.args.i doc doc c.get-doc.ensures.document) c.get-doc.ensures.valid
    c.get-doc.result.numbers.now refl c.get-doc.ensures.numbered c.loop-number.number-index c.loop-number-test.true c.loop-number.ids c.loop-number.next c.get-id.result c.get-id.ensures.number c.loop-number.invariant

pub bounds-ids-at : goal.bounds-ids-at
bounds-ids-at c =
    let docs = c.args.docs.now.documents in
    let doc = document_by (words_of docs) c.get-doc.result in
    step_within docs c.args.i doc c.requires.within (get_or_from_slice_get docs c.args.i doc doc c.get-doc.ensures.document) c.get-doc.ensures.valid
    c.get-doc.result.numbers.now refl c.get-doc.ensures.numbered c.loop-number.number-index c.loop-number-test.true c.loop-number.ids c.loop-number.next c.get-id.result c.get-id.ensures.number c.loop-number.invariant

pub overflow_add-next : goal.overflow_add-next
overflow_add-next c =
    let docs = c.args.docs.now.documents in
    let doc = document_by (words_of docs) c.get-doc.result in
    let below : get_or c.loop-number.next (get_or c.get-doc.result.numbers.now c.loop-number.number-index 0) 0 < length c.loop-number.ids =
    step_within docs c.args.i doc c.requires.within (get_or_from_slice_get docs c.args.i doc doc c.get-doc.ensures.document) c.get-doc.ensures.valid
    c.get-doc.result.numbers.now refl c.get-doc.ensures.numbered c.loop-number.number-index c.loop-number-test.true c.loop-number.ids c.loop-number.next c.get-id.result c.get-id.ensures.number c.loop-number.invariant in
    omega (arith, below, c.requires.most, c.loop-number.auto.ids)

pub bounds-next-word-in-loop-number : goal.bounds-next-word-in-loop-number
bounds-next-word-in-loop-number c =
    let docs = c.args.docs.now.documents in
    let doc = document_by (words_of docs) c.get-doc.result in
    step_place docs c.args.i doc c.requires.within (get_or_from_slice_get docs c.args.i doc doc c.get-doc.ensures.document) c.get-doc.ensures.valid
    c.get-doc.result.numbers.now refl c.get-doc.ensures.numbered c.loop-number.number-index c.loop-number-test.true c.loop-number.ids c.loop-number.next c.get-id.result c.get-id.ensures.number c.loop-number.invariant

pub loop-number-preserved : goal.loop-number-preserved
loop-number-preserved c =
    let docs = c.args.docs.now.documents in
    let doc = document_by (words_of docs) c.get-doc.result in
    step_holds docs c.args.i doc c.requires.within (get_or_from_slice_get docs c.args.i doc doc c.get-doc.ensures.document) c.get-doc.ensures.valid
    c.get-doc.result.numbers.now refl c.get-doc.ensures.numbered c.loop-number.number-index c.loop-number-test.true c.loop-number.ids c.loop-number.next c.get-id.result c.get-id.ensures.number c.loop-number.invariant

pub returns : goal.returns
returns c =
    let docs = c.args.docs.now.documents in
    let doc = document_by (words_of docs) c.get-doc.result in
    step_last docs c.args.i doc c.requires.within (get_or_from_slice_get docs c.args.i doc doc c.get-doc.ensures.document) c.get-doc.ensures.valid
    c.get-doc.result.numbers.now refl c.loop-number.number-index c.loop-number-test.false c.loop-number.ids c.loop-number.next c.get-id.result c.get-id.ensures.number c.loop-number.invariant
