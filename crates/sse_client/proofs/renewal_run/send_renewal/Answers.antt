use Rattle.std.proofs.Common.{inl, inr, ℕ, refl, sym, ap, subst, ◌∙◌}
use Rattle.client_core.specs.Owes.{AreNumbered}
use Rattle.client_core.specs.Payloads.{renewal_payload}
use Rattle.client_core.specs.Renewals.{alone, planned_setup}
use Rattle.client_core.specs.StandsFor.{StandsFor}
use Rattle.client_core.specs.declared.ready.Ready.{Ready}
use Rattle.keyed_fn.specs.KeyedFn.{keyed_fn}
use Rattle.script_run_texts.specs.declared.command_stop.CommandStop.TheVariants.{Exchange}
use Rattle.sse_client.specs.Stands.{seen}
use Rattle.sse_client.proofs.TranscriptsJoined.{SendsKept-err}
use Rattle.sse_client.proofs.RecordedFrames.{owes-taken}
use Rattle.sse_client.proofs.renewal_run.send_renewal.Goals as goal

pub returns-clause-sends : goal.returns-clause-sends
returns-clause-sends g c = λ frames planned numbered. (
  c.in-Ok.ensures.kept,
  c.in_ok-ready.ensures.sends frames (c.commit_renewal-behind.ensures.renewed.owed ∙ planned) (subst (λ n. AreNumbered n frames) (sym c.commit_renewal-behind.ensures.renewed.first) numbered),
)

pub returns-in-Err-clause-sends : goal.returns-in-Err-clause-sends
returns-in-Err-clause-sends g c = λ frames planned numbered. (refl, c.in-Err.ensures.kept)

pub returns-in_err-ready-clause-sends : goal.returns-in_err-ready-clause-sends
returns-in_err-ready-clause-sends g c = λ frames planned numbered.
    SendsKept-err (renewal_payload c.args.renewal.planned) (seen (g.L.Link.transcript c.args.link.now) (g.R.Recorder.kept c.args.recorder.now)) (seen (g.L.Link.transcript c.catch_up.new.link) (g.R.Recorder.kept c.keep_renewal.new.recorder)) frames
    c.from_residual.result (Exchange c.in_err-ready.field-0.0) c.from_residual.ensures.1 (
      c.in-Ok.ensures.kept,
      c.in_err-ready.ensures.sends frames (c.commit_renewal-behind.ensures.renewed.owed ∙ planned) (subst (λ n. AreNumbered n frames) (sym c.commit_renewal-behind.ensures.renewed.first) numbered),
    )

pub returns-clause-stands : goal.returns-clause-stands
returns-clause-stands g c = λ f o first.
    let keys = λ (epoch : ℕ). c.args.renewal.key in
    subst (StandsFor f keys o (alone (planned_setup c.args.renewal.planned))) (sym c.in_ok-ready.ensures.ready) (c.commit_renewal-behind.ensures.stands f keys o first)

pub returns-clause-hash_keys : goal.returns-clause-hash_keys
returns-clause-hash_keys g c = ap (λ (r : Ready). r.registry.keys) c.in_ok-ready.ensures.ready ∙ c.commit_renewal-behind.ensures.renewed.hash_keys

pub returns-clause-marks : goal.returns-clause-marks
returns-clause-marks g c = ap (λ (r : Ready). r.past.marks.items) c.in_ok-ready.ensures.ready ∙ c.commit_renewal-behind.ensures.renewed.marks

pub returns-clause-key : goal.returns-clause-key
returns-clause-key g c = c.in_ok-ready.ensures.key ∙ c.commit_renewal-behind.ensures.key

pub returns-clause-prepared : goal.returns-clause-prepared
returns-clause-prepared g c = c.prepare.ensures ∙ sym (c.in_ok-ready.ensures.key ∙ c.commit_renewal-behind.ensures.key)

pub catch_up-requires-clause-recorded : goal.catch_up-requires-clause-recorded
catch_up-requires-clause-recorded g c =
    owes-taken (keyed_fn g.K.Keyed.prf g.K.Keyed.pad) (g.R.Recorder.kept c.args.recorder.now) (g.R.Recorder.kept c.keep_renewal.new.recorder) (renewal_payload c.args.renewal.planned) c.commit_renewal-behind.result c.in-Ok.ensures.kept
    (λ records ends. inr (inr (inl (c.args.renewal.planned, ends, c.commit_renewal-behind.ensures.renewed.owed))))
