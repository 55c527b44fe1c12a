use Rattle.std.proofs.Common.{List, ℕ, [], ◌∷◌, subst}
use Rattle.keyed_fn.specs.KeyedFn.{keyed_fn}
use Rattle.vault_shelf.specs.ClientRecords.{mark_record}
use Rattle.doc_vault.specs.CommandRuns.{KeepsRecords}
use Rattle.doc_vault.specs.Counts.{with_link, with_recorder}
use Rattle.doc_vault.proofs.Begun.{begins-marked, begins-stopped, unbegun-greet, unbegun-mark}
use Rattle.doc_vault.proofs.CountLaws.{counts-stopped, counts-then}
use Rattle.doc_vault.proofs.RecordersLeft.{leaves-same}
use Rattle.doc_vault.proofs.beginning.begin.Goals as goal

pub returns-in_err-greet-clause-begins : goal.returns-in_err-greet-clause-begins
returns-in_err-greet-clause-begins g c =
    begins-stopped (keyed_fn g.K.Keyed.prf g.K.Keyed.pad) c.args.master.now _ _ _ c.from_residual.result c.in_err-greet.field-0.0 c.from_residual.ensures.1 c.in_err-greet.ensures.greets

pub returns-in_err-greet-clause-honest : goal.returns-in_err-greet-clause-honest
returns-in_err-greet-clause-honest g c = unbegun-greet _ c.from_residual.result c.in_err-greet.field-0.0 c.from_residual.ensures.1 c.in_err-greet.ensures.honest

pub returns-in_err-greet-clause-counts : goal.returns-in_err-greet-clause-counts
returns-in_err-greet-clause-counts g c others =
    counts-stopped _ _ c.from_residual.result c.in_err-greet.field-0.0 c.from_residual.ensures.1 (c.in_err-greet.ensures.counts (with_recorder (g.R.Recorder.faults c.args.recorder.now) others))

pub returns-clause-begins : goal.returns-clause-begins
returns-clause-begins g c =
    begins-marked (keyed_fn g.K.Keyed.prf g.K.Keyed.pad) c.args.master.now _ _ _ _ c.keep_mark.result c.in_ok-greet.ensures.greets
    (subst (λ (mark : List ℕ). KeepsRecords (mark_record mark ∷ []) (g.R.Recorder.kept c.args.recorder.now) (g.R.Recorder.kept c.keep_mark.new.recorder) c.keep_mark.result) c.mark.ensures c.keep_mark.ensures.kept)

pub returns-clause-honest : goal.returns-clause-honest
returns-clause-honest g c = unbegun-mark _ _ _ _ c.keep_mark.result c.keep_mark.ensures.kept

pub returns-clause-counts : goal.returns-clause-counts
returns-clause-counts g c others =
    counts-then _ _ _ c.keep_mark.result (c.in_ok-greet.ensures.counts (with_recorder (g.R.Recorder.faults c.args.recorder.now) others)) (c.keep_mark.ensures.counts (with_link (g.L.VaultLink.faults c.greet.new.link) others))

pub returns-in_err-greet-clause-recorder : goal.returns-in_err-greet-clause-recorder
returns-in_err-greet-clause-recorder g c = leaves-same g.R.Recorder.kept g.R.Recorder.moment g.R.Recorder.left_since g.R.Recorder.whole c.args.recorder.now c.requires.whole (g.met.R.Recorder.at_rest c.args.recorder.now c.requires.whole)
