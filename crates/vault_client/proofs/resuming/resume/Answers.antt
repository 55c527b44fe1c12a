use Rattle.std.proofs.Common.{List, ℕ, sym, subst}
use Rattle.keyed_fn.specs.KeyedFn.{keyed_fn}
use Rattle.doc_vault.proofs.RecordersLeft.{leaves-same}
use Rattle.vault_client.specs.CatchingUp.{KeepsLast}
use Rattle.vault_client.proofs.ResumedRuns.{resumes-under}
use Rattle.vault_client.proofs.resuming.resume.Goals as goal

pub returns-in_err-reply-clause-recorder : goal.returns-in_err-reply-clause-recorder
returns-in_err-reply-clause-recorder g c =
    leaves-same g.R.Recorder.kept g.R.Recorder.moment g.R.Recorder.left_since g.R.Recorder.whole c.args.recorder.now c.requires.whole (g.met.R.Recorder.at_rest c.args.recorder.now c.requires.whole)

pub returns-clause-resumes : goal.returns-clause-resumes
returns-clause-resumes g c key cs restored =
    resumes-under (keyed_fn g.K.Keyed.prf g.K.Keyed.pad) key _ restored.keys_are cs _ _ _ _ c.resume_lines.result
    (c.resume_lines.ensures.resumes cs (subst (λ (last : List ℕ). KeepsLast c.args.restart.shelf last cs) (sym c.deref.ensures.value) restored.apart) restored.commands.accepted restored.commands.recorded)
