use Rattle.std.proofs.Common.{◌≤◌, refl, sym, subst}
use Rattle.keyed_fn.specs.KeyedFn.{keyed_fn}
use Rattle.client_journal.specs.Shows.{SinkShows, prints}
use Rattle.doc_vault.specs.Sights.{Sight, sight_of}
use Rattle.vault_client.specs.OnDisk.{sight}
use Rattle.vault_client.specs.ResumedRuns.{Under}
use Rattle.vault_client.proofs.EndsRun.{counts-line, devices-run, ends_line}
use Rattle.vault_client.proofs.ResumedRun.{records-resumed, resumed-run, stops-resumed}
use Rattle.vault_client.proofs.WholeRun.{run_known}
use Rattle.vault_client.proofs.resumed_run.resumed_run.Goals as goal

pub returns-clause-run : goal.returns-clause-run
returns-clause-run g c = λ left key cs finds restored.
    let ran = c.resume-ran in
    let f = keyed_fn g.K.Keyed.prf g.K.Keyed.pad in
    let sink = prints (g.W.Sink.written c.args.sink.now) (g.W.Sink.faults c.args.sink.now) (g.W.Sink.shortages c.args.sink.now) in
    let sink' = prints (g.W.Sink.written c.finish_run.new.sink) (g.W.Sink.faults c.finish_run.new.sink) (g.W.Sink.shortages c.finish_run.new.sink) in
    let link' = sight_of (g.L.VaultLink.transcript ran.new.link) (g.L.VaultLink.remote ran.new.link) in
    let kept' = g.R.Recorder.kept ran.new.recorder in
    let now : Sight = sight (sight_of (g.L.VaultLink.transcript c.args.link.now) (g.L.VaultLink.remote c.args.link.now)) (g.R.Recorder.kept c.args.recorder.now) sink in
    let end : Sight = record { link = link'; kept = kept'; written = g.W.Sink.written ran.new.sink } in
    resumed-run f left now end (sight link' kept' sink') sink sink' c.finish_run.result ran.result
    (Under (record { key = key; number = c.args.restart.input.number; left_over = _; finds = finds; commands = cs; kept = restored.commands; resumes = ran.ensures.resumes key cs restored })) refl refl
    (ends_line ran.result (g.W.Sink.written ran.new.sink) sink sink' c.finish_run.result _ _ ran.ensures.counts refl refl c.finish_run.ensures.status c.finish_run.ensures.line) c.finish_run.ensures.status

pub returns-clause-devices : goal.returns-clause-devices
returns-clause-devices g c =
    let ran = c.resume-ran in
    let had = c.requires.restored in
    let f = keyed_fn g.K.Keyed.prf g.K.Keyed.pad in
    let sink : SinkShows = prints (g.W.Sink.written c.args.sink.now) (g.W.Sink.faults c.args.sink.now) (g.W.Sink.shortages c.args.sink.now) in
    let sink' : SinkShows = prints (g.W.Sink.written c.finish_run.new.sink) (g.W.Sink.faults c.finish_run.new.sink) (g.W.Sink.shortages c.finish_run.new.sink) in
    record {
      tells = devices-run _ _ (g.W.Sink.faults c.finish_run.new.sink) c.finish_run.result _ ran.result (stops-resumed f _ had.1 _ _ _ _ ran.result (ran.ensures.resumes had.0 had.1 had.2)) ran.ensures.counts c.finish_run.ensures.status ran.ensures.at_end
          c.finish_run.ensures.steady c.finish_run.ensures.later;
      line = counts-line _ (g.W.Sink.written ran.new.sink) sink sink' c.finish_run.result
          (ends_line ran.result (g.W.Sink.written ran.new.sink) sink sink' c.finish_run.result _ _ ran.ensures.counts refl refl c.finish_run.ensures.status c.finish_run.ensures.line);
    }

pub returns-clause-records : goal.returns-clause-records
returns-clause-records g c =
    let ran = c.resume-ran in
    let had = c.requires.restored in
    records-resumed (keyed_fn g.K.Keyed.prf g.K.Keyed.pad) g.R.Recorder.kept g.R.Recorder.moment g.R.Recorder.left_since g.R.Recorder.whole c.args.recorder.now ran.new.recorder _ had.1 _ _ _ _ _ _ c.finish_run.result ran.result
    (g.met.R.Recorder.at_rest c.args.recorder.now c.requires.whole).none (ran.ensures.resumes had.0 had.1 had.2) ran.ensures.recorder c.finish_run.ensures.status

pub returns-clause-known : goal.returns-clause-known
returns-clause-known g c =
    let ran = c.resume-ran in
    let had = c.requires.restored in
    subst (λ n. n ≤ 12) (sym c.finish_run.ensures.status) (run_known ran.result (stops-resumed (keyed_fn g.K.Keyed.prf g.K.Keyed.pad) _ had.1 _ _ _ _ ran.result (ran.ensures.resumes had.0 had.1 had.2)))
