use Rattle.keyed_fn.specs.KeyedFn.{keyed_fn}
use Rattle.keyed_fn.specs.VaultFormulas.{vault_secrets}
use Rattle.doc_vault.specs.Counts.{Counts, with_sink}
use Rattle.doc_vault.proofs.CountLaws.{counts-stopped, counts-then}
use Rattle.vault_restore.proofs.Restored.{restores-scanned, restores-unasked}
use Rattle.vault_restore.proofs.restore.restore_texts.Goals as goal

pub returns-in_err-n-clause-restores : goal.returns-in_err-n-clause-restores
returns-in_err-n-clause-restores g c =
    restores-unasked (keyed_fn g.K.Keyed.prf g.K.Keyed.pad) (vault_secrets (keyed_fn g.K.Keyed.prf g.K.Keyed.pad) c.args.key.now) _ _ _ c.from_residual-in_err-n.result c.in_err-n.field-0.0 c.from_residual-in_err-n.ensures.1 c.in_err-n.ensures.asks

pub returns-in_err-n-clause-counts : goal.returns-in_err-n-clause-counts
returns-in_err-n-clause-counts g c others =
    let printed : Counts = with_sink (g.W.Sink.faults c.args.sink.now) (g.W.Sink.shortages c.args.sink.now) others in
    counts-stopped _ _ c.from_residual-in_err-n.result c.in_err-n.field-0.0 c.from_residual-in_err-n.ensures.1 (c.in_err-n.ensures.counts printed)

pub returns-clause-restores : goal.returns-clause-restores
returns-clause-restores g c =
    restores-scanned (keyed_fn g.K.Keyed.prf g.K.Keyed.pad) (vault_secrets (keyed_fn g.K.Keyed.prf g.K.Keyed.pad) c.args.key.now) c.in_ok-n.n _ _ _ _ c.scan.result c.in_ok-n.ensures.asks (rw c.vault-keys.ensures at c.scan.ensures.scans)

pub returns-clause-counts : goal.returns-clause-counts
returns-clause-counts g c others =
    let printed : Counts = with_sink (g.W.Sink.faults c.args.sink.now) (g.W.Sink.shortages c.args.sink.now) others in
    counts-then _ _ _ c.scan.result (c.in_ok-n.ensures.counts printed) (c.scan.ensures.counts others)
