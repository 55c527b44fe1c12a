use Rattle.std.proofs.Common.{refl, sym, subst}
use Rattle.client_registry.specs.Command.{Delete}
use Rattle.keyed_fn.specs.KeyedFn.{keyed_fn}
use Rattle.def_script_meaning.specs.Lines as requests
use Rattle.def_script_meaning.specs.Outcome.{Says}
use Rattle.def_script_meaning.specs.Refused.{delete_refusal}
use Rattle.sse_script.specs.Lines as lines
use Rattle.sse_script.specs.Shown as says
use Rattle.sse_client.specs.Stands.{IsAt, seen, GoesOn, MayStop}
use Rattle.script_run_texts.specs.Stops.{command_cause}
use Rattle.sse_client.specs.declared.session.Stage.{Stage}
use Rattle.sse_client.specs.declared.session.Stage.TheVariants.{Collecting, Searching}
use Rattle.sse_client.proofs.CommandTaken.{behind, is_up, takes-not_set_up}
use Rattle.sse_client.proofs.UpdateCarriedOut.{of_good, of_fault, of_stop, stops_as, not_refused}
use Rattle.client_recorder.proofs.GrownRecords.{keeps-same}
use Rattle.sse_client.proofs.session.delete.Goals as goal

pub returns-in-Collecting-clause-takes : goal.returns-in-Collecting-clause-takes
returns-in-Collecting-clause-takes g c = λ place a.
    let f = keyed_fn g.K.Keyed.prf g.K.Keyed.pad in
    let here : IsAt f (Collecting c.in-Collecting.client c.in-Collecting.docs) place = subst (λ (s : Stage). IsAt f s place) c.in-Collecting.is a in
    takes-not_set_up f _ _ _ place (requests.Del c.args.id) refl here.stands.1 refl refl here

pub returns-in-Searching-clause-takes : goal.returns-in-Searching-clause-takes
returns-in-Searching-clause-takes g c =
    let f = keyed_fn g.K.Keyed.prf g.K.Keyed.pad in
    let client = c.in-Searching.client in
    let old = seen (g.L.Link.transcript c.args.link.now) (g.R.Recorder.kept c.args.recorder.now) in
    let new = seen (g.L.Link.transcript c.send_update.new.link) (g.R.Recorder.kept c.send_update.new.recorder) in
    of_good c.send_update.result _ _ (λ done goes place a.
    let here : IsAt f (Searching client) place = subst (λ (s : Stage). IsAt f s place) c.in-Searching.is a in
    subst (GoesOn f old new done.0 done.1 place) (sym (behind place (requests.Del c.args.id) (is_up f client place here)))
    (goes f place (delete_refusal place.history c.args.id) (Delete c.args.id) (Says (says.Deleted c.args.id)) (c.plan_deletion-planned.ensures.stands place here) (c.plan_deletion-planned.ensures.plan place here) refl))
    c.send_update.ensures.goes_on

pub returns-in-Searching-clause-stops : goal.returns-in-Searching-clause-stops
returns-in-Searching-clause-stops g c =
    let f = keyed_fn g.K.Keyed.prf g.K.Keyed.pad in
    let client = c.in-Searching.client in
    let old = seen (g.L.Link.transcript c.args.link.now) (g.R.Recorder.kept c.args.recorder.now) in
    let new = seen (g.L.Link.transcript c.send_update.new.link) (g.R.Recorder.kept c.send_update.new.recorder) in
    of_fault c.send_update.result _ _ (λ stop stops place a written.
    let here : IsAt f (Searching client) place = subst (λ (s : Stage). IsAt f s place) c.in-Searching.is a in
    stops_as f place old new written (command_cause stop) (sym (behind place (requests.Del c.args.id) (is_up f client place here)))
    (stops f place (delete_refusal place.history c.args.id) (Delete c.args.id) (Says (says.Deleted c.args.id)) (c.plan_deletion-planned.ensures.stands place here) (c.plan_deletion-planned.ensures.plan place here) written))
    c.send_update.ensures.stops

pub returns-in-Searching-clause-may_stop : goal.returns-in-Searching-clause-may_stop
returns-in-Searching-clause-may_stop g c =
    let f = keyed_fn g.K.Keyed.prf g.K.Keyed.pad in
    of_stop c.send_update.result _ _ (λ unrefused. subst (λ s. MayStop f s (lines.Del c.args.id)) (sym c.in-Searching.is) (λ place here. not_refused _ _ unrefused (c.plan_deletion-planned.ensures.refused place here))) c.send_update.ensures.may_stop

pub returns-in-Collecting-clause-keeps_on : goal.returns-in-Collecting-clause-keeps_on
returns-in-Collecting-clause-keeps_on g c = keeps-same g.R.Recorder.kept g.R.Recorder.moment g.R.Recorder.left_since c.args.recorder.now (g.met.R.Recorder.at_rest c.args.recorder.now c.requires.whole)
