use Rattle.client_recorder.proofs.GrownRecords.{keeps-same}
use Rattle.sse_client.proofs.kept_records.keep_renewal.Goals as goal

pub returns-then-is_err-clause-keeps_on : goal.returns-then-is_err-clause-keeps_on
returns-then-is_err-clause-keeps_on g c = keeps-same g.R.Recorder.kept g.R.Recorder.moment g.R.Recorder.left_since c.args.recorder.now (g.met.R.Recorder.at_rest c.args.recorder.now c.requires.whole)
