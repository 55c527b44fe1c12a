use Rattle.std.proofs.Common.{◌++◌, ◌∷◌, [], Some, sym, ap, ◌∙◌}
use Rattle.client_registry.specs.Documents.{docs_refusal}
use Rattle.client_live_docs.proofs.Pushing.{collected_at, document_at, live_at, take-one_more}
use Rattle.client_live_docs.specs.LiveAfter.{documents_after, command_in}
use Rattle.client_live_docs.proofs.collected.push_all.Goals as goal

pub document_live-requires : goal.document_live-requires
document_live-requires c =
    live_at c.args.registry.now (command_in c.args.pending) c.args.ids.now c.loop-id.id-index c.id-item.result c.requires.ids c.loop-id-test.true c.id-item.is
    c.requires.different

pub push_known-requires : goal.push_known-requires
push_known-requires c =
    ap (λ before. docs_refusal before c.in_ok-document_live.field-0) c.loop-id.invariant.documents
    ∙ collected_at c.args.registry.now (command_in c.args.pending) c.args.ids.now c.loop-id.id-index c.id-item.result c.requires.ids c.loop-id-test.true c.id-item.is
    c.in_ok-document_live.field-0 c.in_ok-document_live.ensures c.requires.different c.requires.few

pub loop-id-preserved : goal.loop-id-preserved
loop-id-preserved c = record {
  documents =
      c.in_ok-push_known.ensures.added
      ∙ ap (λ docs. docs ++ c.in_ok-document_live.field-0 ∷ []) c.loop-id.invariant.documents
      ∙ sym (take-one_more (documents_after c.args.registry.now (command_in c.args.pending)) c.loop-id.id-index c.in_ok-document_live.field-0
      (document_at c.args.registry.now (command_in c.args.pending) c.args.ids.now c.loop-id.id-index c.id-item.result c.requires.ids c.loop-id-test.true c.id-item.is
      ∙ ap (λ d. Some d) (sym c.in_ok-document_live.ensures)));
  keys = c.push_known.ensures.keys ∙ c.loop-id.invariant.keys;
}
