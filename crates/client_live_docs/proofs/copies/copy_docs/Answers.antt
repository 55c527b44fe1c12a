use Rattle.std.proofs.Common.{◌++◌, ◌∷◌, [], sym, ap, ◌∙◌}
use Rattle.client_registry.specs.Documents.{docs_refusal}
use Rattle.client_live_docs.proofs.Copying.{collected_again}
use Rattle.client_live_docs.proofs.Pushing.{take-one_more}
use Rattle.client_live_docs.proofs.copies.copy_docs.Goals as goal

pub push_known-requires : goal.push_known-requires
push_known-requires c =
    ap (λ docs. docs_refusal docs c.in_ok-document_at.field-0) c.loop-i.invariant.documents
    ∙ collected_again c.args.docs.now.documents c.loop-i.i c.in_ok-document_at.field-0 c.len-i-end.ensures.valid c.in_ok-document_at.ensures

pub loop-i-preserved : goal.loop-i-preserved
loop-i-preserved c = record {
  documents =
      c.in_ok-push_known.ensures.added
      ∙ ap (λ docs. docs ++ c.in_ok-document_at.field-0 ∷ []) c.loop-i.invariant.documents
      ∙ sym (take-one_more c.args.docs.now.documents c.loop-i.i c.in_ok-document_at.field-0 c.in_ok-document_at.ensures);
  keys = c.push_known.ensures.keys ∙ c.loop-i.invariant.keys;
}
