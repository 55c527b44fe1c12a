use Rattle.std.proofs.Common.{◌≡◌, ◌∙◌, Ok, Err, refl, sym, ap, subst}
use Rattle.std.specs.Prelude.{IfErr, IfSome, Result}
use Rattle.client_registry.specs.Command.{Delete}
use Rattle.client_registry.specs.IdNumber.{id_number}
use Rattle.client_registry.specs.Epochs.{begins}
use Rattle.client_registry.specs.Run.{last_run}
use Rattle.client_renewal.specs.declared.past.Past.{Past}
use Rattle.def_script_meaning.specs.Carries.{keys_at}
use Rattle.keyed_fn.specs.KeyedFn.{keyed_fn}
use Rattle.def_script_meaning.specs.Refused.{delete_refusal}
use Rattle.sse_client.specs.UpdateFaults.{answer_to_command}
use Rattle.sse_client.specs.UpdatePlans.{CanCarryOut, IfPlanned, IsUpdatePlan, StopsPlan}
use Rattle.script_run_texts.specs.declared.command_stop.CommandStop.{CommandStop}
use Rattle.sse_client.specs.declared.update_answer.UpdateAnswer.{UpdateAnswer}
use Rattle.sse_client.specs.declared.update_answer.UpdateAnswer.TheVariants.{Planned, Refused}
use Rattle.sse_client.proofs.UpdateCarriedOut.{at_master, deletion_at, deletion_refused, frame_at, no_plan, stops_plan, unplanned}
use Rattle.sse_client.proofs.update_run.plan_deletion.Goals as goal

pub returns-in-Err-clause-plan : goal.returns-in-Err-clause-plan
returns-in-Err-clause-plan g c = λ place at.
    let f = keyed_fn g.K.Keyed.prf g.K.Keyed.pad in
    let client = c.args.client.now in
    let id = id_number c.in-Ok.id in
    let x = c.in-Err.fault in
    let same = at_master f place client at c.args.tools.now.master c.requires.prepared in
    let plan = deletion_at f place client at (Err x) id c.in-Ok.id.some (c.in-Err.ensures.fault (keys_at place) (begins at.stands.0) (last_run at.stands.0) same at.stands.2) in
    subst (λ n. IsUpdatePlan f place (delete_refusal place.history n) (Delete n) c.answer_of_command.result) c.in-Ok.ensures.ok
    (subst (IsUpdatePlan f place (delete_refusal place.history id) (Delete id)) (sym c.answer_of_command.ensures) (unplanned f place (delete_refusal place.history id) (Delete id) (answer_to_command x) plan.fault))

pub returns-in-Err-clause-refused : goal.returns-in-Err-clause-refused
returns-in-Err-clause-refused g c = λ place at.
    let f = keyed_fn g.K.Keyed.prf g.K.Keyed.pad in
    let client = c.args.client.now in
    let x = c.in-Err.fault in
    let same = at_master f place client at c.args.tools.now.master c.requires.prepared in
    subst (λ r. IfSome (delete_refusal place.history c.args.id) (λ refusal. r ≡ Ok (Refused refusal))) (sym c.answer_of_command.ensures)
    (subst (λ n. IfSome (delete_refusal place.history n) (λ refusal. answer_to_command x ≡ Ok (Refused refusal))) c.in-Ok.ensures.ok
    (deletion_refused f place client at (Err x) (id_number c.in-Ok.id) c.in-Ok.id.some (c.in-Err.ensures.refused (keys_at place) (begins at.stands.0) (last_run at.stands.0) same at.stands.2) x refl))

pub returns-in-Err-clause-stop : goal.returns-in-Err-clause-stop
returns-in-Err-clause-stop g c = subst (λ r. IfErr r StopsPlan) (sym c.answer_of_command.ensures) (stops_plan c.in-Err.fault)

pub returns-in-Err-clause-commits : goal.returns-in-Err-clause-commits
returns-in-Err-clause-commits g c = subst (λ r. IfPlanned r (CanCarryOut c.plan_delete.new.self.state)) (sym c.answer_of_command.ensures) (no_plan c.in-Err.fault (CanCarryOut c.plan_delete.new.self.state))

pub returns-in-Ok-plan_delete-clause-plan : goal.returns-in-Ok-plan_delete-clause-plan
returns-in-Ok-plan_delete-clause-plan g c = λ place at.
    let f = keyed_fn g.K.Keyed.prf g.K.Keyed.pad in
    let client = c.args.client.now in
    let id = id_number c.in-Ok.id in
    let planned = c.in-Ok-plan_delete.planned in
    let same = at_master f place client at c.args.tools.now.master c.requires.prepared in
    let plan = deletion_at f place client at (Ok planned) id c.in-Ok.id.some (c.in-Ok-plan_delete.ensures.fault (keys_at place) (begins at.stands.0) (last_run at.stands.0) same at.stands.2) in
    subst (λ n. IsUpdatePlan f place (delete_refusal place.history n) (Delete n) (Ok (Planned planned))) c.in-Ok.ensures.ok (
      plan.planned.0,
      record {
        command = c.in-Ok-plan_delete.ensures.command;
        frame = frame_at f place client at (Delete id) planned.frame (c.in-Ok-plan_delete.ensures.frame (keys_at place) (begins at.stands.0) (last_run at.stands.0) same at.stands.2);
        no_clash = plan.planned.1;
      },
    )

pub returns-in-Ok-plan_delete-clause-refused : goal.returns-in-Ok-plan_delete-clause-refused
returns-in-Ok-plan_delete-clause-refused g c = λ place at.
    let why = returns-in-Ok-plan_delete-clause-plan g c place at in
    let result : Result UpdateAnswer CommandStop = Ok (Planned c.in-Ok-plan_delete.planned) in
    subst (λ o. IfSome o (λ refusal. result ≡ Ok (Refused refusal))) (sym why.0) tt

pub returns-in-Err-clause-stands : goal.returns-in-Err-clause-stands
returns-in-Err-clause-stands g c = λ place at.
    let same = at_master (keyed_fn g.K.Keyed.prf g.K.Keyed.pad) place c.args.client.now at c.args.tools.now.master c.requires.prepared in
    record { key = c.plan_delete.ensures.key ∙ at.key; stands = (at.stands.0, at.stands.1, c.plan_delete.ensures.stands (keys_at place) (begins at.stands.0) (last_run at.stands.0) same at.stands.2); hashed = c.plan_delete.ensures.hash_keys ∙ at.hashed; mark = at.mark; marks = ap (λ (p : Past). p.marks.items) c.plan_delete.ensures.past ∙ at.marks }

pub returns-in-Ok-plan_delete-clause-stands : goal.returns-in-Ok-plan_delete-clause-stands
returns-in-Ok-plan_delete-clause-stands g c = λ place at.
    let same = at_master (keyed_fn g.K.Keyed.prf g.K.Keyed.pad) place c.args.client.now at c.args.tools.now.master c.requires.prepared in
    record { key = c.plan_delete.ensures.key ∙ at.key; stands = (at.stands.0, at.stands.1, c.plan_delete.ensures.stands (keys_at place) (begins at.stands.0) (last_run at.stands.0) same at.stands.2); hashed = c.plan_delete.ensures.hash_keys ∙ at.hashed; mark = at.mark; marks = ap (λ (p : Past). p.marks.items) c.plan_delete.ensures.past ∙ at.marks }
