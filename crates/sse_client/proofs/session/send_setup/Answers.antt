use Rattle.std.proofs.Common.{inl, ℕ, [], refl, sym, ap, subst, ◌∙◌}
use Rattle.client_core.specs.Owes.{AreNumbered}
use Rattle.client_core.specs.StandsFor.{StandsFor}
use Rattle.client_core.specs.declared.ready.Ready.{Ready}
use Rattle.client_registry.specs.Run.{Run, at_first}
use Rattle.client_registry.specs.Setup.{setup_with}
use Rattle.keyed_fn.specs.KeyedFn.{keyed_fn}
use Rattle.client_core.specs.Payloads.{setup_payload}
use Rattle.script_run_texts.specs.declared.command_stop.CommandStop.TheVariants.{Exchange}
use Rattle.sse_client.specs.Stands.{seen}
use Rattle.sse_client.proofs.TranscriptsJoined.{SendsKept-err}
use Rattle.sse_client.proofs.RecordedFrames.{owes-taken}
use Rattle.sse_client.proofs.session.send_setup.Goals as goal

pub returns-clause-sends : goal.returns-clause-sends
returns-clause-sends g c = λ frames planned numbered. (
  c.in-Ok.ensures.kept,
  c.in_ok-ready.ensures.sends frames (c.commit-behind.ensures.owed ∙ planned) (subst (λ n. AreNumbered n frames) (sym c.commit-behind.ensures.first) numbered),
)

pub returns-in-Err-clause-sends : goal.returns-in-Err-clause-sends
returns-in-Err-clause-sends g c = λ frames planned numbered. (refl, c.in-Err.ensures.kept)

pub returns-clause-stands : goal.returns-clause-stands
returns-clause-stands g c = λ f.
    let run : Run = record { setup = setup_with c.args.setup.planned.docs.documents c.args.setup.planned.b c.args.setup.planned.big c.args.setup.planned.pad; later = [] } in
    let keys = λ (epoch : ℕ). c.args.setup.client.key in
    subst (StandsFor f keys at_first run) (sym c.in_ok-ready.ensures.ready) (c.commit-behind.ensures.stands f keys)

pub returns-in_err-ready-clause-sends : goal.returns-in_err-ready-clause-sends
returns-in_err-ready-clause-sends g c = λ frames planned numbered.
    SendsKept-err (setup_payload c.args.setup.planned) (seen (g.L.Link.transcript c.args.link.now) (g.R.Recorder.kept c.args.recorder.now)) (seen (g.L.Link.transcript c.catch_up.new.link) (g.R.Recorder.kept c.keep_setup.new.recorder)) frames
    c.from_residual.result (Exchange c.in_err-ready.field-0.0) c.from_residual.ensures.1 (
      c.in-Ok.ensures.kept,
      c.in_err-ready.ensures.sends frames (c.commit-behind.ensures.owed ∙ planned) (subst (λ n. AreNumbered n frames) (sym c.commit-behind.ensures.first) numbered),
    )

pub returns-clause-hash_keys : goal.returns-clause-hash_keys
returns-clause-hash_keys g c = ap (λ (r : Ready). r.registry.keys) c.in_ok-ready.ensures.ready ∙ c.commit-behind.ensures.hash_keys

pub catch_up-requires-clause-recorded : goal.catch_up-requires-clause-recorded
catch_up-requires-clause-recorded g c =
    owes-taken (keyed_fn g.K.Keyed.prf g.K.Keyed.pad) (g.R.Recorder.kept c.args.recorder.now) (g.R.Recorder.kept c.keep_setup.new.recorder) (setup_payload c.args.setup.planned) c.commit-behind.result c.in-Ok.ensures.kept (λ records ends. inl (c.args.setup.planned, ends, c.commit-behind.ensures.owed))

pub returns-clause-marks : goal.returns-clause-marks
returns-clause-marks g c = ap (λ (r : Ready). r.past.marks.items) c.in_ok-ready.ensures.ready ∙ c.commit-behind.ensures.marks
