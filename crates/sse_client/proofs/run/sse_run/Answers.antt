use Rattle.std.proofs.Common.{refl}
use Rattle.client_recorder.proofs.GrownRecords.{keeps-same}
use Rattle.client_journal.proofs.Counts.{devices-idle}
use Rattle.client_journal.proofs.Counts.{counts-took}
use Rattle.sse_client.proofs.run.sse_run.Goals as goal

pub returns-in-None-clause-other : goal.returns-in-None-clause-other
returns-in-None-clause-other g c = λ asked. record { says = record { unread = refl; status_is = c.finish.ensures.status; line = c.finish.ensures.line }; unsent = refl; unkept = refl }

pub returns-in-None-clause-devices : goal.returns-in-None-clause-devices
returns-in-None-clause-devices g c = record {
  tells = devices-idle _ _ _ _ _ _ c.finish.result c.finish.ensures.status;
  began = refl;
  line = counts-took _ _ _ c.finish.result _ _ _ _ c.finish.ensures.line;
}

pub returns-in-None-clause-records : goal.returns-in-None-clause-records
returns-in-None-clause-records g c = record {
  kept_on = keeps-same g.R.Recorder.kept g.R.Recorder.moment g.R.Recorder.left_since c.args.recorder.now (g.met.R.Recorder.at_rest c.args.recorder.now c.requires.whole);
  lasts = λ disk memory. c.requires.whole;
}
