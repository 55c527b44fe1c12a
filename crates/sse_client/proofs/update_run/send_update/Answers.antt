use Rattle.std.proofs.Common.{inl, inr, ◌∷◌, [], List, Ok, refl, sym, ap, subst, ◌∙◌}
use Rattle.client_core.specs.declared.ready.Ready.{Ready}
use Rattle.client_core.specs.TakenViews.{first_number}
use Rattle.client_core.specs.StandsFor.{StandsFor, with_command}
use Rattle.client_registry.specs.Epochs.{begins}
use Rattle.client_registry.specs.Run.{last_run}
use Rattle.sse_frames.specs.Frames.{FrameText}
use Rattle.sse_model.specs.Histories.{frames_of_next}
use Rattle.def_script_meaning.specs.Carries.{keys_at}
use Rattle.client_core.specs.Owes.{AreNumbered}
use Rattle.keyed_fn.specs.KeyedFn.{keyed_fn}
use Rattle.sse_client.specs.Stands.{seen}
use Rattle.sse_client.specs.UpdatePlans.{CanCarryOut, IfPlanned, IsUpdatePlan}
use Rattle.script_run_texts.specs.declared.command_stop.CommandStop.TheVariants.{Exchange, Keeping}
use Rattle.sse_client.specs.declared.update_answer.UpdateAnswer.TheVariants.{Planned}
use Rattle.sse_client.proofs.TranscriptsJoined.{IfErr-from}
use Rattle.sse_client.proofs.UpdateCarriedOut.{goes-refused_update, goes-updated, numbered-at, stops-unplanned, stops-updated}
use Rattle.client_recorder.proofs.GrownRecords.{keeps-same}
use Rattle.sse_client.proofs.RecordedFrames.{owes-taken}
use Rattle.client_core.specs.Payloads.{update_payload}
use Rattle.sse_client.proofs.update_run.send_update.Goals as goal

pub returns-in_err-ready-in-Ok-Planned-clause-stops : goal.returns-in_err-ready-in-Ok-Planned-clause-stops
returns-in_err-ready-in-Ok-Planned-clause-stops g c =
    let old = seen (g.L.Link.transcript c.args.link.now) (g.R.Recorder.kept c.args.recorder.now) in
    let new = seen (g.L.Link.transcript c.catch_up.new.link) (g.R.Recorder.kept c.keep_update.new.recorder) in
    let client = c.args.update.client in
    let planned = c.in-Ok-Planned.planned in
    let stop = c.in_err-ready-in-Ok-Planned.field-0.0 in
    IfErr-from c.from_residual.result (Exchange stop) _ c.from_residual.ensures.1
    (λ f place refusal update shown at plan written.
    let p : IsUpdatePlan f place refusal update (Ok (Planned planned)) = subst (IsUpdatePlan f place refusal update) (c.in-Ok-Planned.is ∙ ap (λ answer. Ok answer) c.in-Ok-Planned.field-0-is) plan in
    let commits : CanCarryOut client.state planned = subst (λ r. IfPlanned r (CanCarryOut client.state)) (c.in-Ok-Planned.is ∙ ap (λ answer. Ok answer) c.in-Ok-Planned.field-0-is) c.requires.commits in
    let frames : List FrameText = frames_of_next f place.key place.history (update ∷ []) in
    let numbered : AreNumbered (first_number c.commit-behind.result.state) frames = subst (λ n. AreNumbered n frames) (sym (c.commit-behind.ensures.first ∙ commits.commits.next)) (numbered-at f place client at planned.update update p.1.command) in
    stops-updated f place refusal update shown client at planned p.0 p.1 old new (Unit {0}) (Exchange stop) (c.in-Ok.ensures.kept, c.in_err-ready-in-Ok-Planned.ensures.sends frames (c.commit-behind.ensures.owed ∙ p.1.frame) numbered) written)

pub returns-in_ok-ready-in-Ok-Planned-clause-goes_on : goal.returns-in_ok-ready-in-Ok-Planned-clause-goes_on
returns-in_ok-ready-in-Ok-Planned-clause-goes_on g c = λ f place refusal update shown at plan view.
    let old = seen (g.L.Link.transcript c.args.link.now) (g.R.Recorder.kept c.args.recorder.now) in
    let new = seen (g.L.Link.transcript c.catch_up.new.link) (g.R.Recorder.kept c.keep_update.new.recorder) in
    let client = c.args.update.client in
    let planned = c.in-Ok-Planned.planned in
    let ready = c.in_ok-ready-in-Ok-Planned.ready in
    let o = begins at.stands.0 in
    let run = last_run at.stands.0 in
    let p : IsUpdatePlan f place refusal update (Ok (Planned planned)) = subst (IsUpdatePlan f place refusal update) (c.in-Ok-Planned.is ∙ ap (λ answer. Ok answer) c.in-Ok-Planned.field-0-is) plan in
    let commits : CanCarryOut client.state planned = subst (λ r. IfPlanned r (CanCarryOut client.state)) (c.in-Ok-Planned.is ∙ ap (λ answer. Ok answer) c.in-Ok-Planned.field-0-is) c.requires.commits in
    let frames : List FrameText = frames_of_next f place.key place.history (update ∷ []) in
    let numbered : AreNumbered (first_number c.commit-behind.result.state) frames = subst (λ n. AreNumbered n frames) (sym (c.commit-behind.ensures.first ∙ commits.commits.next)) (numbered-at f place client at planned.update update p.1.command) in
    let stands : StandsFor f (keys_at place) o (with_command run update) ready.state = subst (StandsFor f (keys_at place) o (with_command run update)) (sym c.in_ok-ready-in-Ok-Planned.ensures.ready)
    (subst (λ d. StandsFor f (keys_at place) o (with_command run d) c.commit-behind.result.state.ready) p.1.command (c.commit-behind.ensures.stands f (keys_at place) o run at.stands.2)) in
    goes-updated f place refusal update shown client at planned p.0 p.1 old new ready c.args.update.done c.in-Ok.ensures.kept
    (c.in_ok-ready-in-Ok-Planned.ensures.sends frames (c.commit-behind.ensures.owed ∙ p.1.frame) numbered) view c.requires.accepts (c.in_ok-ready-in-Ok-Planned.ensures.key ∙ c.commit-behind.ensures.key) (ap (λ (r : Ready). r.registry.keys) c.in_ok-ready-in-Ok-Planned.ensures.ready ∙ c.commit-behind.ensures.hash_keys) (ap (λ (r : Ready). r.past) c.in_ok-ready-in-Ok-Planned.ensures.ready ∙ c.commit-behind.ensures.past) stands

pub returns-in-Ok-Refused-clause-goes_on : goal.returns-in-Ok-Refused-clause-goes_on
returns-in-Ok-Refused-clause-goes_on g c = λ f place refusal update shown at plan view.
    let now = seen (g.L.Link.transcript c.args.link.now) (g.R.Recorder.kept c.args.recorder.now) in
    let p = subst (IsUpdatePlan f place refusal update) (c.in-Ok-Refused.is ∙ ap (λ answer. Ok answer) c.in-Ok-Refused.field-0-is) plan in
    goes-refused_update f place refusal update shown now c.args.update.client _ c.in-Ok-Refused.refusal at p refl refl

pub returns-in-Err-clause-stops : goal.returns-in-Err-clause-stops
returns-in-Err-clause-stops g c = λ f place refusal update shown at plan written.
    let now = seen (g.L.Link.transcript c.args.link.now) (g.R.Recorder.kept c.args.recorder.now) in
    stops-unplanned f place refusal update shown now c.in-Err.stop (subst (IsUpdatePlan f place refusal update) c.in-Err.is plan) written

pub returns-in-Err-keep_update-clause-stops : goal.returns-in-Err-keep_update-clause-stops
returns-in-Err-keep_update-clause-stops g c =
    let old = seen (g.L.Link.transcript c.args.link.now) (g.R.Recorder.kept c.args.recorder.now) in
    let new = seen (g.L.Link.transcript c.args.link.now) (g.R.Recorder.kept c.keep_update.new.recorder) in
    λ f place refusal update shown at plan written.
    let p : IsUpdatePlan f place refusal update (Ok (Planned c.in-Ok-Planned.planned)) = subst (IsUpdatePlan f place refusal update) (c.in-Ok-Planned.is ∙ ap (λ answer. Ok answer) c.in-Ok-Planned.field-0-is) plan in
    stops-updated f place refusal update shown c.args.update.client at c.in-Ok-Planned.planned p.0 p.1 old new (Unit {0}) (Keeping c.in-Err-keep_update.fault) (refl, c.in-Err-keep_update.ensures.kept) written

pub returns-in-Ok-Refused-clause-keeps_on : goal.returns-in-Ok-Refused-clause-keeps_on
returns-in-Ok-Refused-clause-keeps_on g c = keeps-same g.R.Recorder.kept g.R.Recorder.moment g.R.Recorder.left_since c.args.recorder.now (g.met.R.Recorder.at_rest c.args.recorder.now c.requires.whole)

pub returns-in-Err-clause-keeps_on : goal.returns-in-Err-clause-keeps_on
returns-in-Err-clause-keeps_on g c = keeps-same g.R.Recorder.kept g.R.Recorder.moment g.R.Recorder.left_since c.args.recorder.now (g.met.R.Recorder.at_rest c.args.recorder.now c.requires.whole)

pub catch_up-requires-clause-recorded : goal.catch_up-requires-clause-recorded
catch_up-requires-clause-recorded g c =
    owes-taken (keyed_fn g.K.Keyed.prf g.K.Keyed.pad) (g.R.Recorder.kept c.args.recorder.now) (g.R.Recorder.kept c.keep_update.new.recorder) (update_payload c.in-Ok-Planned.planned) c.commit-behind.result c.in-Ok.ensures.kept (λ records ends. inr (inl (c.in-Ok-Planned.planned, ends, c.commit-behind.ensures.owed)))
