use Rattle.std.proofs.Common.{Err, ℕ, ap}
use Rattle.keyed_fn.specs.KeyedFn.{keyed_fn}
use Rattle.script_run_texts.specs.declared.stop_cause.StopCause.TheVariants as runs
use Rattle.vault_script.specs.declared.vault_stop.VaultStop.TheVariants as stops
use Rattle.doc_vault.specs.Counts.{Counts, with_source}
use Rattle.doc_vault.proofs.CountLaws.{counts-stopped, counts-then, shows-input}
use Rattle.doc_vault.proofs.Scripted.{finds-first, misses-first, script-opened, script-unopened}
use Rattle.doc_vault.proofs.RecordersLeft.{leaves-same}
use Rattle.doc_vault.proofs.script.run_script.Goals as goal

pub returns-in_err-key-clause-run : goal.returns-in_err-key-clause-run
returns-in_err-key-clause-run g c =
    script-unopened (keyed_fn g.K.Keyed.prf g.K.Keyed.pad) _ _ c.from_residual-in_err-key.result c.in_err-key.field-0.0 c.from_residual-in_err-key.ensures.1
    (λ number e. misses-first _ _ _ number c.in_ok-input.ensures.number c.in_ok-input.ensures.pending (c.in_err-key.ensures.missing number (ap Err e)))

pub returns-clause-run : goal.returns-clause-run
returns-clause-run g c =
    script-opened (keyed_fn g.K.Keyed.prf g.K.Keyed.pad) _ _ _ c.in_ok-key.key _ _ c.first_run.result
    (finds-first _ _ _ _ _ _ c.in_ok-input.ensures.number c.in_ok-input.ensures.pending c.in_ok-key.ensures.found) c.first_run.ensures.run

pub returns-in_err-key-clause-counts : goal.returns-in_err-key-clause-counts
returns-in_err-key-clause-counts g c =
    let others : Counts = record { source = 0; sink = g.W.Sink.faults c.args.sink.now; shortages = g.W.Sink.shortages c.args.sink.now; link = g.L.VaultLink.faults c.args.link.now; recorder = g.R.Recorder.faults c.args.recorder.now } in
    counts-stopped _ _ c.from_residual-in_err-key.result (stops.Run (runs.Input c.in_err-key.field-0.0)) c.from_residual-in_err-key.ensures.1 (shows-input _ _ others c.in_err-key.field-0.0 c.key_line.ensures.later c.in_err-key.ensures.source.cause)

pub returns-clause-counts : goal.returns-clause-counts
returns-clause-counts g c =
    let others : Counts = record { source = 0; sink = g.W.Sink.faults c.args.sink.now; shortages = g.W.Sink.shortages c.args.sink.now; link = g.L.VaultLink.faults c.args.link.now; recorder = g.R.Recorder.faults c.args.recorder.now } in
    counts-then _ _ _ c.first_run.result (ap (λ (n : ℕ). with_source n others) c.in_ok-key.ensures.source.steady) c.first_run.ensures.counts

pub returns-in_err-reply-clause-recorder : goal.returns-in_err-reply-clause-recorder
returns-in_err-reply-clause-recorder g c = leaves-same g.R.Recorder.kept g.R.Recorder.moment g.R.Recorder.left_since g.R.Recorder.whole c.args.recorder.now c.requires (g.met.R.Recorder.at_rest c.args.recorder.now c.requires)

pub returns-in_err-input-clause-recorder : goal.returns-in_err-input-clause-recorder
returns-in_err-input-clause-recorder g c = leaves-same g.R.Recorder.kept g.R.Recorder.moment g.R.Recorder.left_since g.R.Recorder.whole c.args.recorder.now c.requires (g.met.R.Recorder.at_rest c.args.recorder.now c.requires)

pub returns-in_err-key-clause-recorder : goal.returns-in_err-key-clause-recorder
returns-in_err-key-clause-recorder g c = leaves-same g.R.Recorder.kept g.R.Recorder.moment g.R.Recorder.left_since g.R.Recorder.whole c.args.recorder.now c.requires (g.met.R.Recorder.at_rest c.args.recorder.now c.requires)
