use Rattle.std.proofs.Common.{◌≤◌, [], refl, sym, ◌∙◌, subst}
use Rattle.keyed_fn.specs.KeyedFn.{keyed_fn}
use Rattle.client_journal.specs.Shows.{SinkShows, prints}
use Rattle.sse_script.specs.TextLines.{lines_left}
use Rattle.doc_vault.specs.Sights.{Sight, sight_of}
use Rattle.vault_client.specs.OnDisk.{sight}
use Rattle.vault_client.proofs.EndsRun.{counts-line, devices-run, ends_line}
use Rattle.vault_client.proofs.RecordsKept.{records-run}
use Rattle.vault_client.proofs.WholeRun.{run_known, run_opened, run_stops, whole-run}
use Rattle.vault_client.proofs.begun_run.whole_run.Goals as goal

pub returns-clause-run : goal.returns-clause-run
returns-clause-run g c =
    let ran = c.run_script-ran in
    let f = keyed_fn g.K.Keyed.prf g.K.Keyed.pad in
    let left = lines_left [] (g.S.Source.remaining c.args.source.now) in
    let sink = prints (g.W.Sink.written c.args.sink.now) (g.W.Sink.faults c.args.sink.now) (g.W.Sink.shortages c.args.sink.now) in
    let sink' = prints (g.W.Sink.written c.finish_run.new.sink) (g.W.Sink.faults c.finish_run.new.sink) (g.W.Sink.shortages c.finish_run.new.sink) in
    let link' = sight_of (g.L.VaultLink.transcript ran.new.link) (g.L.VaultLink.remote ran.new.link) in
    let kept' = g.R.Recorder.kept ran.new.recorder in
    let now : Sight = sight (sight_of (g.L.VaultLink.transcript c.args.link.now) (g.L.VaultLink.remote c.args.link.now)) (g.R.Recorder.kept c.args.recorder.now) sink in
    let end : Sight = record { link = link'; kept = kept'; written = g.W.Sink.written ran.new.sink } in
    whole-run f left now end (sight link' kept' sink') sink sink' c.finish_run.result ran.result ran.ensures.run refl refl refl
    (ends_line ran.result (g.W.Sink.written ran.new.sink) sink sink' c.finish_run.result _ _ ran.ensures.counts refl refl c.finish_run.ensures.status c.finish_run.ensures.line) c.finish_run.ensures.status

pub returns-clause-devices : goal.returns-clause-devices
returns-clause-devices g c =
    let ran = c.run_script-ran in
    let f = keyed_fn g.K.Keyed.prf g.K.Keyed.pad in
    let sink : SinkShows = prints (g.W.Sink.written c.args.sink.now) (g.W.Sink.faults c.args.sink.now) (g.W.Sink.shortages c.args.sink.now) in
    let sink' : SinkShows = prints (g.W.Sink.written c.finish_run.new.sink) (g.W.Sink.faults c.finish_run.new.sink) (g.W.Sink.shortages c.finish_run.new.sink) in
    record {
      tells = devices-run _ _ (g.W.Sink.faults c.finish_run.new.sink) c.finish_run.result _ ran.result (run_stops f _ _ _ ran.result ran.ensures.run) ran.ensures.counts c.finish_run.ensures.status ran.ensures.at_end c.finish_run.ensures.steady c.finish_run.ensures.later;
      line = counts-line _ (g.W.Sink.written ran.new.sink) sink sink' c.finish_run.result
          (ends_line ran.result (g.W.Sink.written ran.new.sink) sink sink' c.finish_run.result _ _ ran.ensures.counts refl refl c.finish_run.ensures.status c.finish_run.ensures.line);
    }

pub returns-clause-records : goal.returns-clause-records
returns-clause-records g c =
    let ran = c.run_script-ran in
    records-run (keyed_fn g.K.Keyed.prf g.K.Keyed.pad) g.R.Recorder.kept g.R.Recorder.moment g.R.Recorder.left_since g.R.Recorder.whole c.args.recorder.now ran.new.recorder _ _ _ _ _ c.finish_run.result ran.result
    (g.met.R.Recorder.at_rest c.args.recorder.now c.requires.whole).none ran.ensures.run ran.ensures.recorder c.finish_run.ensures.status

pub returns-clause-opened : goal.returns-clause-opened
returns-clause-opened g c =
    let ran = c.run_script-ran in
    λ ten. run_opened ran.result (run_stops (keyed_fn g.K.Keyed.prf g.K.Keyed.pad) _ _ _ ran.result ran.ensures.run) (sym c.finish_run.ensures.status ∙ ten)

pub returns-clause-known : goal.returns-clause-known
returns-clause-known g c =
    let ran = c.run_script-ran in
    subst (λ n. n ≤ 12) (sym c.finish_run.ensures.status) (run_known ran.result (run_stops (keyed_fn g.K.Keyed.prf g.K.Keyed.pad) _ _ _ ran.result ran.ensures.run))
