use Rattle.std.proofs.Common.{◌≡◌, ◌∙◌, None, Ok, Err, sym, ap, subst}
use Rattle.std.specs.Prelude.{IfErr}
use Rattle.client_registry.specs.Command.{Add}
use Rattle.client_registry.specs.Epochs.{begins}
use Rattle.client_registry.specs.Run.{last_run}
use Rattle.client_renewal.specs.declared.past.Past.{Past}
use Rattle.def_script_meaning.specs.Carries.{keys_at}
use Rattle.keyed_fn.specs.KeyedFn.{keyed_fn}
use Rattle.script_documents.specs.LineDocument.{document}
use Rattle.script_documents.specs.Refused.{document_refusal}
use Rattle.def_script_meaning.specs.Refused.{add_refusal}
use Rattle.sse_client.specs.UpdateFaults.{answer_to_command, answer_to_line}
use Rattle.sse_client.specs.UpdatePlans.{CanCarryOut, IfPlanned, IsUpdatePlan, StopsPlan, clash_of}
use Rattle.sse_client.specs.declared.update_answer.UpdateAnswer.TheVariants.{Planned}
use Rattle.sse_client.proofs.UpdateCarriedOut.{addition_at, at_master, frame_at, line_fault, no_plan, no_plan-line, stops_plan, stops_plan-line, unplanned}
use Rattle.sse_client.proofs.update_run.plan_addition.Goals as goal

pub returns-in-Err-clause-plan : goal.returns-in-Err-clause-plan
returns-in-Err-clause-plan g c = λ place at.
    let f = keyed_fn g.K.Keyed.prf g.K.Keyed.pad in
    let doc = document c.args.id c.args.fields in
    subst (IsUpdatePlan f place (add_refusal place.history doc) (Add doc)) (sym c.answer_of_line.ensures)
    (unplanned f place (add_refusal place.history doc) (Add doc) (answer_to_line c.in-Err.fault) (line_fault place doc (clash_of f place (Add doc)) c.in-Err.fault c.in-Err.ensures.refused))

pub returns-in-Err-clause-stop : goal.returns-in-Err-clause-stop
returns-in-Err-clause-stop g c = subst (λ r. IfErr r StopsPlan) (sym c.answer_of_line.ensures) (stops_plan-line c.in-Err.fault)

pub returns-in-Err-clause-commits : goal.returns-in-Err-clause-commits
returns-in-Err-clause-commits g c = subst (λ r. IfPlanned r (CanCarryOut c.args.client.now.state)) (sym c.answer_of_line.ensures) (no_plan-line c.in-Err.fault (CanCarryOut c.args.client.now.state))

pub returns-in-Err-plan_add-clause-plan : goal.returns-in-Err-plan_add-clause-plan
returns-in-Err-plan_add-clause-plan g c = λ place at.
    let f = keyed_fn g.K.Keyed.prf g.K.Keyed.pad in
    let client = c.args.client.now in
    let doc = c.in-Ok.doc in
    let x = c.in-Err-plan_add.fault in
    let same = at_master f place client at c.args.tools.now.master c.requires.prepared in
    let valid = subst (λ d. document_refusal d.id d.words ≡ None) (sym c.in-Ok.ensures.document) c.in-Ok.ensures.good in
    let plan = addition_at f place client at (Err x) doc valid (c.in-Err-plan_add.ensures.fault (keys_at place) (begins at.stands.0) (last_run at.stands.0) same at.stands.2) in
    subst (λ d. IsUpdatePlan f place (add_refusal place.history d) (Add d) c.answer_of_command.result) c.in-Ok.ensures.document
    (subst (IsUpdatePlan f place (add_refusal place.history doc) (Add doc)) (sym c.answer_of_command.ensures) (unplanned f place (add_refusal place.history doc) (Add doc) (answer_to_command x) plan.fault))

pub returns-in-Err-plan_add-clause-stop : goal.returns-in-Err-plan_add-clause-stop
returns-in-Err-plan_add-clause-stop g c = subst (λ r. IfErr r StopsPlan) (sym c.answer_of_command.ensures) (stops_plan c.in-Err-plan_add.fault)

pub returns-in-Err-plan_add-clause-commits : goal.returns-in-Err-plan_add-clause-commits
returns-in-Err-plan_add-clause-commits g c = subst (λ r. IfPlanned r (CanCarryOut c.plan_add.new.self.state)) (sym c.answer_of_command.ensures) (no_plan c.in-Err-plan_add.fault (CanCarryOut c.plan_add.new.self.state))

pub returns-in-Ok-plan_add-clause-plan : goal.returns-in-Ok-plan_add-clause-plan
returns-in-Ok-plan_add-clause-plan g c = λ place at.
    let f = keyed_fn g.K.Keyed.prf g.K.Keyed.pad in
    let client = c.args.client.now in
    let doc = c.in-Ok.doc in
    let planned = c.in-Ok-plan_add.planned in
    let same = at_master f place client at c.args.tools.now.master c.requires.prepared in
    let valid = subst (λ d. document_refusal d.id d.words ≡ None) (sym c.in-Ok.ensures.document) c.in-Ok.ensures.good in
    let plan = addition_at f place client at (Ok planned) doc valid (c.in-Ok-plan_add.ensures.fault (keys_at place) (begins at.stands.0) (last_run at.stands.0) same at.stands.2) in
    subst (λ d. IsUpdatePlan f place (add_refusal place.history d) (Add d) (Ok (Planned planned))) c.in-Ok.ensures.document (
      plan.planned.0,
      record {
        command = c.in-Ok-plan_add.ensures.command;
        frame = frame_at f place client at (Add doc) planned.frame (c.in-Ok-plan_add.ensures.frame (keys_at place) (begins at.stands.0) (last_run at.stands.0) same at.stands.2);
        no_clash = plan.planned.1;
      },
    )

pub returns-in-Err-plan_add-clause-stands : goal.returns-in-Err-plan_add-clause-stands
returns-in-Err-plan_add-clause-stands g c = λ place at.
    let same = at_master (keyed_fn g.K.Keyed.prf g.K.Keyed.pad) place c.args.client.now at c.args.tools.now.master c.requires.prepared in
    record { key = c.plan_add.ensures.key ∙ at.key; stands = (at.stands.0, at.stands.1, c.plan_add.ensures.stands (keys_at place) (begins at.stands.0) (last_run at.stands.0) same at.stands.2); hashed = c.plan_add.ensures.hash_keys ∙ at.hashed; mark = at.mark; marks = ap (λ (p : Past). p.marks.items) c.plan_add.ensures.past ∙ at.marks }

pub returns-in-Ok-plan_add-clause-stands : goal.returns-in-Ok-plan_add-clause-stands
returns-in-Ok-plan_add-clause-stands g c = λ place at.
    let same = at_master (keyed_fn g.K.Keyed.prf g.K.Keyed.pad) place c.args.client.now at c.args.tools.now.master c.requires.prepared in
    record { key = c.plan_add.ensures.key ∙ at.key; stands = (at.stands.0, at.stands.1, c.plan_add.ensures.stands (keys_at place) (begins at.stands.0) (last_run at.stands.0) same at.stands.2); hashed = c.plan_add.ensures.hash_keys ∙ at.hashed; mark = at.mark; marks = ap (λ (p : Past). p.marks.items) c.plan_add.ensures.past ∙ at.marks }
