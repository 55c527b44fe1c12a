use Rattle.std.proofs.Common.{◌≡◌, refl, ap, sym, ◌∙◌, subst}
use Rattle.std.proofs.Common.{false}
use Rattle.client_registry.specs.Histories.{is_set_up}
use Rattle.def_script_meaning.specs.Outcome.{Place}
use Rattle.sse_model.specs.Epochs.{key_in}
use Rattle.client_registry.specs.Collected.{Collected}
use Rattle.sse_client.specs.Stages.{hash_keys_under}
use Rattle.sse_client.specs.Stands.{IsAt, MayStop}
use Rattle.sse_client.proofs.UpdateCarriedOut.{of_stop}
use Rattle.sse_client.proofs.CommandTaken.{is_up, takes-doc, takes-doc_behind}
use Rattle.sse_client.specs.declared.session.Stage.{Stage}
use Rattle.sse_client.specs.declared.session.Stage.TheVariants.{Collecting, Searching}
use Rattle.sse_script.specs.Lines as lines
use Rattle.sse_client.proofs.session.collect.Goals as goal

pub returns-in-Ok-clause-takes :
    goal.returns-in-Ok-clause-takes
returns-in-Ok-clause-takes c = λ f now place a.
    let here : IsAt f (Collecting c.in-Collecting.client c.in-Collecting.docs) place = subst (λ (s : Stage). IsAt f s place) c.in-Collecting.is a in
    takes-doc f now c.args.id c.args.fields c.in-Collecting.docs.documents c.add_document-added.new.docs.documents _ _ c.add_document-added.result place here.stands.1 here.stands.0
    (λ ds after e is. record { key = here.key ∙ sym (ap (λ (p : Place). key_in p.key p.history) is); stands = (e ∙ sym (ap (λ (p : Place). p.documents) is), subst (λ (p : Place). is_set_up p.history ≡ false) (sym is) here.stands.1); hashed = c.add_document-added.ensures.keys ∙ here.hashed ∙ sym (ap (λ (p : Place). hash_keys_under f (key_in p.key p.history)) is); mark = ap (λ (p : Place). p.mark) is ∙ here.mark; marks = ap (λ (p : Place). p.used) is ∙ here.marks })
    (record { added = c.add_document-added.ensures.added; accepted = c.add_document-added.ensures.accepted; refused = c.add_document-added.ensures.refused; kept = of_stop c.add_document-added.result _ _ (λ same. ap (λ (d : Collected). d.documents) same) c.add_document-added.ensures.kept })
    (record { nothing = c.in-Ok.ensures.nothing; refused = c.in-Ok.ensures.refused; memory = c.in-Ok.ensures.memory })

pub returns-in-Searching-clause-takes : goal.returns-in-Searching-clause-takes
returns-in-Searching-clause-takes c = λ f now place a.
    let here : IsAt f (Searching c.in-Searching.client) place = subst (λ (s : Stage). IsAt f s place) c.in-Searching.is a in
    takes-doc_behind f now _ _ place c.args.id c.args.fields (is_up f c.in-Searching.client place here) refl refl here

pub returns-in-Err-clause-may_stop :
    goal.returns-in-Err-clause-may_stop
returns-in-Err-clause-may_stop c =
    λ f. subst (λ s. MayStop f s (lines.Doc c.args.id c.args.fields)) (sym c.in-Collecting.is) (c.add_document-added.ensures.memory c.in-Err.ensures.stops)
