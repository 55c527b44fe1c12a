use Rattle.std.proofs.Common.{Err, ℕ, ap}
use Rattle.keyed_fn.specs.KeyedFn.{keyed_fn}
use Rattle.script_run_texts.specs.declared.stop_cause.StopCause.TheVariants as runs
use Rattle.vault_script.specs.declared.vault_stop.VaultStop.TheVariants as stops
use Rattle.doc_vault.specs.Counts.{Counts, with_link, with_sink, with_source}
use Rattle.doc_vault.proofs.CountLaws.{counts-stopped, counts-then, shows-input}
use Rattle.vault_restore.proofs.WholeRuns.{opened, unopened}
use Rattle.vault_restore.proofs.whole.restore_script.Goals as goal

pub returns-in_err-key-clause-restores : goal.returns-in_err-key-clause-restores
returns-in_err-key-clause-restores g c =
    unopened (keyed_fn g.K.Keyed.prf g.K.Keyed.pad) _ _ c.from_residual.result c.in_err-key.field-0.0 c.from_residual.ensures.1 (λ number e. c.in_err-key.ensures.bad number (ap Err e))

pub returns-in_err-key-clause-counts : goal.returns-in_err-key-clause-counts
returns-in_err-key-clause-counts g c others =
    let rest : Counts = with_link (g.L.VaultLink.faults c.args.link.now) (with_sink (g.W.Sink.faults c.args.sink.now) (g.W.Sink.shortages c.args.sink.now) others) in
    counts-stopped _ _ c.from_residual.result (stops.Run (runs.Input c.in_err-key.field-0.0)) c.from_residual.ensures.1 (shows-input _ _ rest c.in_err-key.field-0.0 c.script_key.ensures.later c.in_err-key.ensures.source.cause)

pub returns-clause-restores : goal.returns-clause-restores
returns-clause-restores g c = opened (keyed_fn g.K.Keyed.prf g.K.Keyed.pad) _ _ _ c.in_ok-key.key c.restore_texts.result c.in_ok-key.ensures.alone c.restore_texts.ensures.restores

pub returns-clause-counts : goal.returns-clause-counts
returns-clause-counts g c others =
    let rest : Counts = with_link (g.L.VaultLink.faults c.args.link.now) (with_sink (g.W.Sink.faults c.args.sink.now) (g.W.Sink.shortages c.args.sink.now) others) in
    counts-then _ _ _ c.restore_texts.result (ap (λ (n : ℕ). with_source n rest) c.in_ok-key.ensures.source.steady) (c.restore_texts.ensures.counts (with_source (g.S.Source.faults c.script_key.new.source) others))
