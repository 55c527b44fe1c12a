use Rattle.std.proofs.Common.{List, ℕ, [], Err, ap, ◌∙◌, subst}
use Rattle.keyed_fn.specs.KeyFormulas.{mark_of}
use Rattle.keyed_fn.specs.KeyedFn.{keyed_fn}
use Rattle.keyed_fn.specs.VaultFormulas.{vault_secrets}
use Rattle.sse_journal.specs.JournalView.{IsJournalOf}
use Rattle.sse_script.specs.TextLines.{lines_left}
use Rattle.vault_client.specs.Recoveries.{Recovers}
use Rattle.doc_vault.proofs.Scripted.{finds-first, misses-first}
use Rattle.vault_client.proofs.Restored.{has_restored, stops-keyless, stops-unread}
use Rattle.vault_client.proofs.restart.restore.Goals as goal

pub returns-in_err-key-clause-stopped : goal.returns-in_err-key-clause-stopped
returns-in_err-key-clause-stopped g c =
    stops-keyless (keyed_fn g.K.Keyed.prf g.K.Keyed.pad) (lines_left [] (g.S.Source.remaining c.args.source.now)) (g.D.Disk.content c.args.disk.now) c.from_residual-in_err-key.result c.in_err-key.field-0.0 c.from_residual-in_err-key.ensures.1
    (λ number e. misses-first _ _ _ number c.in_ok-input.ensures.number c.in_ok-input.ensures.pending (c.in_err-key.ensures.missing number (ap Err e)))

pub returns-in_err-rebuilt-clause-stopped : goal.returns-in_err-rebuilt-clause-stopped
returns-in_err-rebuilt-clause-stopped g c =
    let f = keyed_fn g.K.Keyed.prf g.K.Keyed.pad in
    let why = c.in_err-rebuilt.field-0.0 in
    stops-unread f c.in_ok-key.key c.args.journal.now (g.D.Disk.content c.args.disk.now) (g.D.Disk.images c.args.disk.now) c.requires.holds (lines_left [] (g.S.Source.remaining c.args.source.now)) _ _
    c.from_residual-in_err-rebuilt.result why c.from_residual-in_err-rebuilt.ensures.1
    (finds-first _ _ _ _ _ _ c.in_ok-input.ensures.number c.in_ok-input.ensures.pending c.in_ok-key.ensures.found)
    (subst (λ (key : List ℕ). Recovers (λ all. IsJournalOf all c.args.journal.now (g.D.Disk.content c.args.disk.now) (g.D.Disk.images c.args.disk.now)) (mark_of f key) (Err why)) c.prepare-master.ensures c.in_err-rebuilt.ensures.recovers)

pub returns-clause-restored : goal.returns-clause-restored
returns-clause-restored g c =
    let f = keyed_fn g.K.Keyed.prf g.K.Keyed.pad in
    has_restored f c.in_ok-key.key c.args.journal.now (g.D.Disk.content c.args.disk.now) (g.D.Disk.images c.args.disk.now) c.requires.holds c.requires.some c.in_ok-rebuilt.rebuilt c.in_ok-rebuilt.ensures.recovers
    (c.in_ok-rebuilt.ensures.mark ∙ ap (mark_of f) c.prepare-master.ensures) _ _ c.finish-shelf.ensures.shelf (ap (λ (last : _). last.items) c.finish-shelf.ensures.last)
    _ (c.vault-keys.ensures ∙ ap (vault_secrets f) c.prepare-master.ensures) (lines_left [] (g.S.Source.remaining c.args.source.now)) _ _
    (finds-first _ _ _ _ _ _ c.in_ok-input.ensures.number c.in_ok-input.ensures.pending c.in_ok-key.ensures.found)
