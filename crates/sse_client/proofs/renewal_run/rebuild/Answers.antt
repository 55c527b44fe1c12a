use Rattle.std.proofs.Common.{◌≡◌, List, Ok, Err, refl, sym, ap, subst, ◌∙◌}
use Rattle.std.specs.Prelude.{Result, length}
use Rattle.client_core.specs.Renewals.{alone}
use Rattle.client_registry.specs.Acceptance.{blocks_of}
use Rattle.client_registry.specs.Epochs.{begins, behind, setup_renewed}
use Rattle.client_registry.specs.Run.{last_run}
use Rattle.client_registry.specs.Setup.{setup_words}
use Rattle.def_script_meaning.specs.Carries.{keys_at}
use Rattle.def_script_meaning.specs.Lines as requests
use Rattle.index_setup.specs.Entries.{key_table}
use Rattle.keyed_fn.specs.KeyedFn.{keyed_fn}
use Rattle.script_run_texts.specs.Stops.{command_cause}
use Rattle.script_run_texts.specs.declared.line_result.LineResult.{LineResult}
use Rattle.script_run_texts.specs.declared.line_result.LineResult.TheVariants.{Refused}
use Rattle.sse_frames.specs.Frames.{FrameText}
use Rattle.sse_model.specs.Wire.{frames_of_setup}
use Rattle.sse_script.specs.Lines as lines
use Rattle.sse_client.specs.RenewalFaults.{renewal_answer}
use Rattle.sse_client.specs.Stands.{IsAt, IsReady, MayStop, StopsWithin, Takes, seen}
use Rattle.sse_client.specs.declared.session.Stage.{Stage}
use Rattle.sse_client.specs.declared.session.Stage.TheVariants.{Collecting, Searching}
use Rattle.client_core.specs.Payloads.{renewal_payload}
use Rattle.client_core.specs.declared.planned_renewal.PlannedRenewal.{PlannedRenewal}
use Rattle.client_records.specs.Records.{renewal_record}
use Rattle.client_renewal.specs.declared.renewal_fault.RenewalFault.{RenewalFault}
use Rattle.client_recorder.proofs.GrownRecords.{keeps-same}
use Rattle.sse_client.proofs.CommandTaken.{takes-not_set_up}
use Rattle.sse_client.proofs.RenewalCarriedOut.{begins-next, goes-refused_renewal, goes-renewed, no_early_refusal, numbered-renewal, renewal_at, stops-no_renewal, stops-renewed, untold}
use Rattle.sse_client.proofs.TranscriptsJoined.{IfErr-from, may_stop}
use Rattle.sse_client.proofs.renewal_run.rebuild.Goals as goal

pub returns-in-Collecting-clause-takes : goal.returns-in-Collecting-clause-takes
returns-in-Collecting-clause-takes g c = λ place a.
    let f = keyed_fn g.K.Keyed.prf g.K.Keyed.pad in
    let here : IsAt f (Collecting c.in-Collecting.client c.in-Collecting.docs) place = subst (λ (s : Stage). IsAt f s place) c.in-Collecting.is a in
    takes-not_set_up f _ _ _ place (requests.RebuildLine c.args.key) refl here.stands.1 refl refl here

pub returns-in_ok-send_renewal-in-Ok-clause-takes : goal.returns-in_ok-send_renewal-in-Ok-clause-takes
returns-in_ok-send_renewal-in-Ok-clause-takes g c =
    let f = keyed_fn g.K.Keyed.prf g.K.Keyed.pad in
    let old = seen (g.L.Link.transcript c.args.link.now) (g.R.Recorder.kept c.args.recorder.now) in
    let new = seen (g.L.Link.transcript c.send_renewal.new.link) (g.R.Recorder.kept c.send_renewal.new.recorder) in
    let client = c.in-Searching.client in
    let key = c.new-key.result in
    let planned = c.in-Ok.planned in
    let plan = c.in-Ok.ensures.plan in
    let done = c.in_ok-send_renewal-in-Ok.field-0 in
    let sent = c.in_ok-send_renewal-in-Ok.ensures in
    let takes : Takes f c.args.stage (requests.RebuildLine key) old new done.0 done.1 = λ place a.
    let here : IsAt f (Searching client) place = subst (λ (s : Stage). IsAt f s place) c.in-Searching.is a in
    let o = begins here.stands.0 in
    let run = last_run here.stands.0 in
    let s = setup_renewed run in
    let frames : List FrameText = frames_of_setup (key_table f key s) (behind o run) s in
    let renews = c.in-Ok.ensures.renews (keys_at place) o run here.stands.2 in
    let passed = (renewal_at f place client here key (Ok planned) (c.in-Ok.ensures.fault (keys_at place) o run here.stands.2)).planned in
    let sends = sent.sends frames renews.frames (numbered-renewal f place client here key planned.number plan.number) in
    let ready : IsReady f key (behind o run) (alone s) done.0 = subst (λ x. IsReady f key (behind o run) (alone x) done.0) renews.setup (sent.stands f (behind o run) (begins-next f place client here key planned.number plan.number)) in
    goes-renewed f place client here key old new (renewal_payload planned) (ap renewal_record plan.mark) passed.0 passed.1 done.0 done.1 planned.own_words planned.own_blocks
    (plan.own_words ∙ (λ i. length (setup_words (renews.setup i)))) (plan.own_blocks ∙ ap blocks_of renews.setup) sends.0 sends.1 sent.shown sent.accepted ready
    sent.key (sent.hash_keys ∙ plan.hash_keys) (sent.marks ∙ plan.marks) in
    subst (λ k. Takes f c.args.stage (requests.RebuildLine k) old new done.0 done.1) c.new-key.ensures takes

pub returns-in_err-send_renewal-in-Ok-clause-stops : goal.returns-in_err-send_renewal-in-Ok-clause-stops
returns-in_err-send_renewal-in-Ok-clause-stops g c =
    let f = keyed_fn g.K.Keyed.prf g.K.Keyed.pad in
    let old = seen (g.L.Link.transcript c.args.link.now) (g.R.Recorder.kept c.args.recorder.now) in
    let new = seen (g.L.Link.transcript c.send_renewal.new.link) (g.R.Recorder.kept c.send_renewal.new.recorder) in
    let client = c.in-Searching.client in
    let key = c.new-key.result in
    let planned = c.in-Ok.planned in
    let plan = c.in-Ok.ensures.plan in
    let stop = c.in_err-send_renewal-in-Ok.field-0.0 in
    let stops : StopsWithin f c.args.stage (requests.RebuildLine key) old new (command_cause stop) = λ place a written.
    let here : IsAt f (Searching client) place = subst (λ (s : Stage). IsAt f s place) c.in-Searching.is a in
    let o = begins here.stands.0 in
    let run = last_run here.stands.0 in
    let s = setup_renewed run in
    let frames : List FrameText = frames_of_setup (key_table f key s) (behind o run) s in
    let renews = c.in-Ok.ensures.renews (keys_at place) o run here.stands.2 in
    let passed = (renewal_at f place client here key (Ok planned) (c.in-Ok.ensures.fault (keys_at place) o run here.stands.2)).planned in
    stops-renewed f place client here key old new (renewal_payload planned) (ap renewal_record plan.mark) passed.0 passed.1 (Stage × LineResult) stop
    (c.in_err-send_renewal-in-Ok.ensures.sends frames renews.frames (numbered-renewal f place client here key planned.number plan.number)) written in
    IfErr-from c.from_residual.result stop (λ e. StopsWithin f c.args.stage (requests.RebuildLine c.args.key) old new (command_cause e)) c.from_residual.ensures.1
    (subst (λ k. StopsWithin f c.args.stage (requests.RebuildLine k) old new (command_cause stop)) c.new-key.ensures stops)

pub returns-in-Ok-renewal_refusal-clause-takes : goal.returns-in-Ok-renewal_refusal-clause-takes
returns-in-Ok-renewal_refusal-clause-takes g c =
    let f = keyed_fn g.K.Keyed.prf g.K.Keyed.pad in
    let now = seen (g.L.Link.transcript c.args.link.now) (g.R.Recorder.kept c.args.recorder.now) in
    let client = c.in-Searching.client in
    let key = c.new-key.result in
    let fault = c.in-Err.fault in
    let shown = c.in-Ok-renewal_refusal.refusal in
    let came : LineResult = Refused shown in
    let takes : Takes f c.args.stage (requests.RebuildLine key) now now (Searching client) came = λ place a.
    let here : IsAt f (Searching client) place = subst (λ (s : Stage). IsAt f s place) c.in-Searching.is a in
    let r : Result PlannedRenewal RenewalFault = Err fault in
    let answers = (renewal_at f place client here key r (c.in-Err.ensures.fault (keys_at place) (begins here.stands.0) (last_run here.stands.0) here.stands.2)).fault in
    goes-refused_renewal f place client here key now came shown fault answers (sym c.in-Ok-renewal_refusal.ensures) refl refl in
    subst (λ k. Takes f c.args.stage (requests.RebuildLine k) now now (Searching client) came) c.new-key.ensures takes

pub returns-in-Err-renewal_refusal-clause-stops : goal.returns-in-Err-renewal_refusal-clause-stops
returns-in-Err-renewal_refusal-clause-stops g c =
    let f = keyed_fn g.K.Keyed.prf g.K.Keyed.pad in
    let now = seen (g.L.Link.transcript c.args.link.now) (g.R.Recorder.kept c.args.recorder.now) in
    let client = c.in-Searching.client in
    let key = c.new-key.result in
    let fault = c.in-Err.fault in
    let stop = c.in-Err-renewal_refusal.stop in
    let stops : StopsWithin f c.args.stage (requests.RebuildLine key) now now (command_cause stop) = λ place a written.
    let here : IsAt f (Searching client) place = subst (λ (s : Stage). IsAt f s place) c.in-Searching.is a in
    let r : Result PlannedRenewal RenewalFault = Err fault in
    let answers = (renewal_at f place client here key r (c.in-Err.ensures.fault (keys_at place) (begins here.stands.0) (last_run here.stands.0) here.stands.2)).fault in
    stops-no_renewal f place client here key now stop fault answers (sym c.in-Err-renewal_refusal.ensures) written in
    subst (λ k. StopsWithin f c.args.stage (requests.RebuildLine k) now now (command_cause stop)) c.new-key.ensures stops

pub returns-in_err-send_renewal-in-Ok-clause-may_stop : goal.returns-in_err-send_renewal-in-Ok-clause-may_stop
returns-in_err-send_renewal-in-Ok-clause-may_stop g c =
    let f = keyed_fn g.K.Keyed.prf g.K.Keyed.pad in
    let client = c.in-Searching.client in
    let key = c.new-key.result in
    let r : Result PlannedRenewal RenewalFault = Ok c.in-Ok.planned in
    let may : MayStop f (Searching client) (lines.Rebuild key) = λ place here.
    no_early_refusal f place client here key r (c.in-Ok.ensures.refused (keys_at place) (begins here.stands.0) (last_run here.stands.0) here.stands.2) (λ fault is. absurd (cc)) in
    may_stop c.from_residual.result (MayStop f c.args.stage (lines.Rebuild c.args.key))
    (subst (λ s. MayStop f s (lines.Rebuild c.args.key)) (sym c.in-Searching.is) (subst (λ k. MayStop f (Searching client) (lines.Rebuild k)) c.new-key.ensures may))

pub returns-in-Err-renewal_refusal-clause-may_stop : goal.returns-in-Err-renewal_refusal-clause-may_stop
returns-in-Err-renewal_refusal-clause-may_stop g c =
    let f = keyed_fn g.K.Keyed.prf g.K.Keyed.pad in
    let client = c.in-Searching.client in
    let key = c.new-key.result in
    let fault = c.in-Err.fault in
    let stop = c.in-Err-renewal_refusal.stop in
    let r : Result PlannedRenewal RenewalFault = Err fault in
    let may : MayStop f (Searching client) (lines.Rebuild key) = λ place here.
    no_early_refusal f place client here key r (c.in-Err.ensures.refused (keys_at place) (begins here.stands.0) (last_run here.stands.0) here.stands.2)
    (λ x is. let same : fault ≡ x = cc in untold x stop (ap renewal_answer (sym same) ∙ sym c.in-Err-renewal_refusal.ensures)) in
    subst (λ s. MayStop f s (lines.Rebuild c.args.key)) (sym c.in-Searching.is) (subst (λ k. MayStop f (Searching client) (lines.Rebuild k)) c.new-key.ensures may)

pub returns-in-Collecting-clause-keeps_on : goal.returns-in-Collecting-clause-keeps_on
returns-in-Collecting-clause-keeps_on g c = keeps-same g.R.Recorder.kept g.R.Recorder.moment g.R.Recorder.left_since c.args.recorder.now (g.met.R.Recorder.at_rest c.args.recorder.now c.requires.whole)

pub returns-in-Err-renewal_refusal-clause-keeps_on : goal.returns-in-Err-renewal_refusal-clause-keeps_on
returns-in-Err-renewal_refusal-clause-keeps_on g c = keeps-same g.R.Recorder.kept g.R.Recorder.moment g.R.Recorder.left_since c.args.recorder.now (g.met.R.Recorder.at_rest c.args.recorder.now c.requires.whole)

pub returns-in-Ok-renewal_refusal-clause-keeps_on : goal.returns-in-Ok-renewal_refusal-clause-keeps_on
returns-in-Ok-renewal_refusal-clause-keeps_on g c = keeps-same g.R.Recorder.kept g.R.Recorder.moment g.R.Recorder.left_since c.args.recorder.now (g.met.R.Recorder.at_rest c.args.recorder.now c.requires.whole)

pub returns-in_ok-send_renewal-in-Ok-clause-prepared : goal.returns-in_ok-send_renewal-in-Ok-clause-prepared
returns-in_ok-send_renewal-in-Ok-clause-prepared g c = c.in_ok-send_renewal-in-Ok.ensures.prepared
