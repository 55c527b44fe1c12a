use Rattle.doc_vault.proofs.RecordersLeft.{leaves-same}
use Rattle.doc_vault.proofs.command.keep_record.Goals as goal

pub returns-in-Get-clause-recorder : goal.returns-in-Get-clause-recorder
returns-in-Get-clause-recorder g c = leaves-same g.R.Recorder.kept g.R.Recorder.moment g.R.Recorder.left_since g.R.Recorder.whole c.args.recorder.now c.requires.whole (g.met.R.Recorder.at_rest c.args.recorder.now c.requires.whole)
