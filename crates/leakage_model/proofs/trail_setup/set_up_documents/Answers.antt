use Rattle.std.proofs.Common.{◌≡◌, ◌<◌, [], length, take, get_or, sym, ap, ◌∙◌, arith, Some}
use Rattle.std.specs.Prelude.{if◌then◌else◌, slice_get}
use Rattle.std.proofs.lemmas.List.{length-take-le, take_all}
use Rattle.std.proofs.lemmas.Option.{get_or_from_slice_get, slice_get-get_or}
use Rattle.client_registry.specs.Document.{Document}
use Rattle.client_registry.specs.Documents.{has_word}
use Rattle.client_registry.specs.Setup.{setup_of}
use Rattle.client_live_docs.proofs.Pushing.{take-one_more}
use Rattle.leakage_model.proofs.SetupLaws.{few_pairs, new_id, told_of, told_of-all, told_of-push}
use Rattle.leakage_model.specs.WordFacts.{set_up_with}
use Rattle.leakage_model.proofs.trail_setup.set_up_documents.Goals as goal

pub set_up_document-requires-clause-few : goal.set_up_document-requires-clause-few
set_up_document-requires-clause-few c = λ w.
    let docs = c.args.docs.now.documents in
    let i = c.loop-i.i in
    let s = setup_of docs c.args.shape.b c.args.shape.big in
    let lt = c.loop-i-test.true in
    omega (arith, ap (λ f. length f.listed) (c.loop-i.invariant.told w), few_pairs c.args.command s (take i docs) w, length-take-le i docs (omega (arith, lt, c.len-i-end.ensures.len)), lt, c.len-i-end.ensures.len, c.len-i-end.ensures.valid.documents)

pub loop-i-preserved : goal.loop-i-preserved
loop-i-preserved c =
    let docs = c.args.docs.now.documents in
    let i = c.loop-i.i in
    let s = setup_of docs c.args.shape.b c.args.shape.big in
    let lt : i < length docs = omega (arith, c.loop-i-test.true, c.len-i-end.ensures.len) in
    let d : Document = get_or docs i (record { id = 0; words = [] }) in
    let at : slice_get docs i ≡ Some d = slice_get-get_or docs i (record { id = 0; words = [] }) lt in
    record {
      told = λ w.
          c.in_ok-set_up_document.ensures.held d at w
          ∙ (λ j. if has_word w d then set_up_with c.args.command d.id (c.loop-i.invariant.told w j) else c.loop-i.invariant.told w j)
          ∙ told_of-push c.args.command s (take i docs) d w (new_id docs i d c.len-i-end.ensures.valid.different lt (get_or_from_slice_get docs i d d at))
          ∙ ap (λ ds. told_of c.args.command s ds w) (sym (take-one_more docs i d at));
      hasher = c.in_ok-set_up_document.ensures.hasher ∙ c.loop-i.invariant.hasher;
    }

pub returns-clause-told : goal.returns-clause-told
returns-clause-told c = λ o first w.
    let docs = c.args.docs.now.documents in
    let s = setup_of docs c.args.shape.b c.args.shape.big in
    c.loop-i.invariant.told w
    ∙ ap (λ ds. told_of c.args.command s ds w) (take_all c.loop-i.i docs (omega (arith, c.loop-i-test.false, c.len-i-end.ensures.len)))
    ∙ ap (λ n. told_of n s docs w) (sym first)
    ∙ told_of-all o s w
