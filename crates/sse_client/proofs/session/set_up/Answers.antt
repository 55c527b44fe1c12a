use Rattle.std.proofs.Common.{ℕ, ◌∷◌, [], List, refl, sym, ap, subst, ◌∙◌}
use Rattle.client_core.specs.Payloads.{setup_payload}
use Rattle.def_script_meaning.specs.Carries.{Keeps}
use Rattle.client_core.specs.declared.planned.Planned.{Planned}
use Rattle.client_registry.specs.Document.{Document}
use Rattle.client_registry.specs.Run.{at_first}
use Rattle.client_registry.specs.Setup.{setup_with}
use Rattle.index_setup.proofs.BuildErrors.{size_accepted}
use Rattle.index_setup.specs.Entries.{key_table}
use Rattle.keyed_fn.specs.KeyedFn.{keyed_fn}
use Rattle.sse_frames.specs.Frames.{FrameText}
use Rattle.sse_model.specs.Wire.{frames_of_setup}
use Rattle.script_run_texts.specs.Stops.{command_cause}
use Rattle.script_run_texts.specs.declared.line_result.LineResult.{LineResult}
use Rattle.script_run_texts.specs.declared.line_result.LineResult.TheVariants as line_results
use Rattle.sse_client.specs.declared.session.Stage.{Stage}
use Rattle.sse_client.specs.declared.session.Stage.TheVariants.{Collecting, Searching}
use Rattle.sse_client.proofs.TranscriptsJoined.{IfErr-from, may_stop}
use Rattle.sse_client.proofs.SetupPlan.{frames_of_setup-are_numbered, stopped_plan}
use Rattle.def_script_meaning.specs.Lines as requests
use Rattle.sse_client.specs.Stands.{IsAt, seen, IsReady, MayStop, StopsWithin}
use Rattle.sse_client.proofs.CommandTaken.{IsCollecting, collecting_at, is_up, takes_if_sent, stops_if_sent, takes-refused_setup, stops-plan, takes-set_up_already}
use Rattle.sse_client.specs.Stages.{key_of}
use Rattle.sse_script.specs.Lines as lines
use Rattle.client_recorder.proofs.GrownRecords.{keeps-same}
use Rattle.sse_client.proofs.session.set_up.Goals as goal

pub returns-in_ok-send_setup-in-Ok-clause-takes : goal.returns-in_ok-send_setup-in-Ok-clause-takes
returns-in_ok-send_setup-in-Ok-clause-takes g c =
    let f = keyed_fn g.K.Keyed.prf g.K.Keyed.pad in
    let old = seen (g.L.Link.transcript c.args.link.now) (g.R.Recorder.kept c.args.recorder.now) in
    let new = seen (g.L.Link.transcript c.send_setup.new.link) (g.R.Recorder.kept c.send_setup.new.recorder) in
    let key = c.in-Collecting.client.key in
    let docs = c.in-Collecting.docs.documents in
    let s = setup_with docs c.args.sizes.b c.args.sizes.big c.args.sizes.pad in
    let frames : List FrameText = frames_of_setup (key_table f key s) at_first s in
    let shape = c.in-Ok.ensures.shape in
    let done = c.in_ok-send_setup-in-Ok.field-0 in
    let at : IsCollecting f key docs c.in-Collecting.docs.keys c.args.stage = λ place a.
    let here : IsAt f (Collecting c.in-Collecting.client c.in-Collecting.docs) place = subst (λ (s : Stage). IsAt f s place) c.in-Collecting.is a in
    collecting_at f c.in-Collecting.client c.in-Collecting.docs place here in
    let ready : IsReady f key at_first (record { setup = s; later = [] }) done.0 = subst (λ (p : List Document × ℕ × ℕ × ℕ). IsReady f key at_first (record { setup = setup_with p.0 p.1 p.2 p.3; later = [] }) done.0)
    (λ i. ((c.in-Ok.ensures.documents i).documents, shape.0 i, shape.1 i, c.in-Ok.ensures.pad i)) (c.in_ok-send_setup-in-Ok.ensures.stands f) in
    let spelled = c.in-Ok.ensures.payload in
    let sends = c.in_ok-send_setup-in-Ok.ensures.sends frames c.in-Ok.ensures.frames (frames_of_setup-are_numbered (key_table f key s) at_first s) in
    takes_if_sent f key old new c.args.stage docs c.in-Collecting.docs.keys c.args.sizes.b c.args.sizes.big c.args.sizes.pad at c.in-Ok.ensures.accepted c.in-Ok.planned.own_words c.in-Ok.planned.own_blocks c.in-Ok.ensures.own_words c.in-Ok.ensures.own_blocks
    done.0 done.1 (subst (λ payload. Keeps old.kept new.kept (payload ∷ [])) spelled sends.0) sends.1 c.in_ok-send_setup-in-Ok.ensures.shown c.in_ok-send_setup-in-Ok.ensures.accepted ready
    c.in_ok-send_setup-in-Ok.ensures.key (c.in_ok-send_setup-in-Ok.ensures.hash_keys ∙ (λ i. (c.in-Ok.ensures.documents i).keys)) (c.in_ok-send_setup-in-Ok.ensures.marks ∙ ap (λ mark. mark ∷ []) c.in-Ok.ensures.mark)

pub returns-in_err-send_setup-in-Ok-clause-stops : goal.returns-in_err-send_setup-in-Ok-clause-stops
returns-in_err-send_setup-in-Ok-clause-stops g c =
    let f = keyed_fn g.K.Keyed.prf g.K.Keyed.pad in
    let old = seen (g.L.Link.transcript c.args.link.now) (g.R.Recorder.kept c.args.recorder.now) in
    let new = seen (g.L.Link.transcript c.send_setup.new.link) (g.R.Recorder.kept c.send_setup.new.recorder) in
    let key = c.in-Collecting.client.key in
    let docs = c.in-Collecting.docs.documents in
    let s = setup_with docs c.args.sizes.b c.args.sizes.big c.args.sizes.pad in
    let frames : List FrameText = frames_of_setup (key_table f key s) at_first s in
    let stop = c.in_err-send_setup-in-Ok.field-0.0 in
    let spelled = c.in-Ok.ensures.payload in
    let at : IsCollecting f key docs c.in-Collecting.docs.keys c.args.stage = λ place a.
    let here : IsAt f (Collecting c.in-Collecting.client c.in-Collecting.docs) place = subst (λ (s : Stage). IsAt f s place) c.in-Collecting.is a in
    collecting_at f c.in-Collecting.client c.in-Collecting.docs place here in
    IfErr-from c.from_residual.result stop (λ e. StopsWithin f c.args.stage (requests.SetupLine c.args.sizes.b c.args.sizes.big c.args.sizes.pad) old new (command_cause e)) c.from_residual.ensures.1
    (stops_if_sent f key old new c.args.stage docs c.in-Collecting.docs.keys c.args.sizes.b c.args.sizes.big c.args.sizes.pad at c.in-Ok.ensures.accepted (Stage × LineResult) (setup_payload c.in-Ok.planned) stop spelled
    (c.in_err-send_setup-in-Ok.ensures.sends frames c.in-Ok.ensures.frames (frames_of_setup-are_numbered (key_table f key s) at_first s)))

pub returns-in-Err-setup_refusal-clause-stops :
    goal.returns-in-Err-setup_refusal-clause-stops
returns-in-Err-setup_refusal-clause-stops g c =
    let f = keyed_fn g.K.Keyed.prf g.K.Keyed.pad in
    let old = seen (g.L.Link.transcript c.args.link.now) (g.R.Recorder.kept c.args.recorder.now) in
    let stop = c.in-Err-setup_refusal.stop in
    let key = c.in-Collecting.client.key in
    let docs = c.in-Collecting.docs.documents in
    let plan = c.in-Err.ensures in
    let at : IsCollecting f key docs c.in-Collecting.docs.keys c.args.stage = λ place a.
    let here : IsAt f (Collecting c.in-Collecting.client c.in-Collecting.docs) place = subst (λ (s : Stage). IsAt f s place) c.in-Collecting.is a in
    collecting_at f c.in-Collecting.client c.in-Collecting.docs place here in
    λ place a written.
    let p = at place a in
    stops-plan f key docs c.args.sizes.b c.args.sizes.big c.args.sizes.pad place p.0 p.1 p.2 Planned c.in-Err.fault (record { refused = plan.refused; clash = plan.clash; built = plan.built }) old stop
    (sym c.in-Err-setup_refusal.ensures) written

pub returns-in-Ok-setup_refusal-clause-takes :
    goal.returns-in-Ok-setup_refusal-clause-takes
returns-in-Ok-setup_refusal-clause-takes g c =
    let f = keyed_fn g.K.Keyed.prf g.K.Keyed.pad in
    let old = seen (g.L.Link.transcript c.args.link.now) (g.R.Recorder.kept c.args.recorder.now) in
    let docs = c.in-Collecting.docs.documents in
    let shown = c.in-Ok-setup_refusal.refusal in
    let next : Stage = Collecting c.in-Collecting.client c.in-Err.kept in
    let came : LineResult = line_results.Refused shown in
    let plan = c.in-Err.ensures in
    λ place a.
    let here : IsAt f (Collecting c.in-Collecting.client c.in-Collecting.docs) place = subst (λ (s : Stage). IsAt f s place) c.in-Collecting.is a in
    let still : IsAt f next place = subst (λ d. IsAt f (Collecting c.in-Collecting.client d) place) (sym c.in-Err.ensures.kept) here in
    let p = collecting_at f c.in-Collecting.client c.in-Collecting.docs place here in
    takes-refused_setup f c.in-Collecting.client.key docs c.args.sizes.b c.args.sizes.big c.args.sizes.pad place p.0 p.1 p.2 Planned c.in-Err.fault
    (record { refused = plan.refused; clash = plan.clash; built = plan.built }) old next came shown refl refl still (sym c.in-Ok-setup_refusal.ensures)

pub returns-in-Searching-clause-takes : goal.returns-in-Searching-clause-takes
returns-in-Searching-clause-takes g c = λ place a.
    let f = keyed_fn g.K.Keyed.prf g.K.Keyed.pad in
    let here : IsAt f (Searching c.in-Searching.client) place = subst (λ (s : Stage). IsAt f s place) c.in-Searching.is a in
    takes-set_up_already f _ _ _ place c.args.sizes.b c.args.sizes.big c.args.sizes.pad (is_up f c.in-Searching.client place here) refl refl here

pub returns-in_ok-send_setup-in-Ok-clause-same_key : goal.returns-in_ok-send_setup-in-Ok-clause-same_key
returns-in_ok-send_setup-in-Ok-clause-same_key g c = c.in_ok-send_setup-in-Ok.ensures.key ∙ ap key_of (sym c.in-Collecting.is)

pub returns-in_err-send_setup-in-Ok-clause-may_stop :
    goal.returns-in_err-send_setup-in-Ok-clause-may_stop
returns-in_err-send_setup-in-Ok-clause-may_stop g c =
    may_stop c.from_residual.result (MayStop (keyed_fn g.K.Keyed.prf g.K.Keyed.pad) c.args.stage (lines.SetupLine c.args.sizes.b c.args.sizes.big c.args.sizes.pad))
    (subst (λ s. MayStop (keyed_fn g.K.Keyed.prf g.K.Keyed.pad) s (lines.SetupLine c.args.sizes.b c.args.sizes.big c.args.sizes.pad)) (sym c.in-Collecting.is)
    (size_accepted (keyed_fn g.K.Keyed.prf g.K.Keyed.pad) c.in-Collecting.client.key (setup_with c.in-Collecting.docs.documents c.args.sizes.b c.args.sizes.big c.args.sizes.pad) c.in-Ok.ensures.accepted))

pub returns-in-Err-setup_refusal-clause-may_stop :
    goal.returns-in-Err-setup_refusal-clause-may_stop
returns-in-Err-setup_refusal-clause-may_stop g c =
    let plan = c.in-Err.ensures in
    let why = stopped_plan (keyed_fn g.K.Keyed.prf g.K.Keyed.pad) c.in-Collecting.client.key (setup_with c.in-Collecting.docs.documents c.args.sizes.b c.args.sizes.big c.args.sizes.pad) Planned c.in-Err.fault (record { refused = plan.refused; clash = plan.clash; built = plan.built })
    c.in-Err-setup_refusal.stop (sym c.in-Err-setup_refusal.ensures) in
    subst (λ s. MayStop (keyed_fn g.K.Keyed.prf g.K.Keyed.pad) s (lines.SetupLine c.args.sizes.b c.args.sizes.big c.args.sizes.pad)) (sym c.in-Collecting.is) why.0

pub returns-in-Err-setup_refusal-clause-keeps_on : goal.returns-in-Err-setup_refusal-clause-keeps_on
returns-in-Err-setup_refusal-clause-keeps_on g c = keeps-same g.R.Recorder.kept g.R.Recorder.moment g.R.Recorder.left_since c.args.recorder.now (g.met.R.Recorder.at_rest c.args.recorder.now c.requires.whole)

pub returns-in-Ok-setup_refusal-clause-keeps_on : goal.returns-in-Ok-setup_refusal-clause-keeps_on
returns-in-Ok-setup_refusal-clause-keeps_on g c = keeps-same g.R.Recorder.kept g.R.Recorder.moment g.R.Recorder.left_since c.args.recorder.now (g.met.R.Recorder.at_rest c.args.recorder.now c.requires.whole)

pub returns-in-Searching-clause-keeps_on : goal.returns-in-Searching-clause-keeps_on
returns-in-Searching-clause-keeps_on g c = keeps-same g.R.Recorder.kept g.R.Recorder.moment g.R.Recorder.left_since c.args.recorder.now (g.met.R.Recorder.at_rest c.args.recorder.now c.requires.whole)
