use Rattle.std.proofs.Common.{refl}
use Rattle.keyed_fn.specs.KeyedFn.{keyed_fn}
use Rattle.vault_shelf.specs.Shelves.{empty_shelf}
use Rattle.doc_vault.specs.Sights.{sight_of}
use Rattle.doc_vault.specs.Counts.{Counts}
use Rattle.doc_vault.proofs.CountLaws.{counts-stopped, counts-then}
use Rattle.doc_vault.proofs.Begun.{run-unbegun, run-under}
use Rattle.doc_vault.proofs.RecordersLeft.{leaves-then}
use Rattle.doc_vault.proofs.beginning.first_run.Goals as goal

pub returns-in_err-begin-clause-run : goal.returns-in_err-begin-clause-run
returns-in_err-begin-clause-run g c =
    run-unbegun (keyed_fn g.K.Keyed.prf g.K.Keyed.pad) c.args.key.now c.prepare-master.result c.prepare-master.ensures _ _ _ _ c.from_residual.result c.in_err-begin.field-0.0 c.from_residual.ensures.1 c.in_err-begin.ensures.begins refl c.in_err-begin.ensures.honest

pub returns-clause-run : goal.returns-clause-run
returns-clause-run g c =
    run-under (keyed_fn g.K.Keyed.prf g.K.Keyed.pad) c.args.key.now c.prepare-master.result c.prepare-master.ensures _ _ _
    (record {
      link = sight_of (g.L.VaultLink.transcript c.begin.new.link) (g.L.VaultLink.remote c.begin.new.link);
      kept = g.R.Recorder.kept c.begin.new.recorder;
      written = g.W.Sink.written c.args.sink.now;
    })
    _ _ _ c.run_lines.result c.vault-keys.ensures c.in_ok-begin.ensures.begins refl (c.run_lines.ensures.run empty_shelf c.new-shelf.ensures.empty)

pub returns-in_err-begin-clause-counts : goal.returns-in_err-begin-clause-counts
returns-in_err-begin-clause-counts g c =
    let others : Counts = record { source = g.S.Source.faults c.args.source.now; sink = g.W.Sink.faults c.args.sink.now; shortages = g.W.Sink.shortages c.args.sink.now; link = 0; recorder = 0 } in
    counts-stopped _ _ c.from_residual.result c.in_err-begin.field-0.0 c.from_residual.ensures.1 (c.in_err-begin.ensures.counts others)

pub returns-clause-counts : goal.returns-clause-counts
returns-clause-counts g c =
    let others : Counts = record { source = g.S.Source.faults c.args.source.now; sink = g.W.Sink.faults c.args.sink.now; shortages = g.W.Sink.shortages c.args.sink.now; link = 0; recorder = 0 } in
    counts-then _ _ _ c.run_lines.result (c.in_ok-begin.ensures.counts others) c.run_lines.ensures.counts

pub returns-clause-recorder : goal.returns-clause-recorder
returns-clause-recorder g c =
    leaves-then g.R.Recorder.kept g.R.Recorder.moment g.R.Recorder.left_since g.R.Recorder.whole c.args.recorder.now c.begin.new.recorder c.run_lines.new.recorder c.begin.ensures.recorder (g.met.R.Recorder.at_rest c.begin.new.recorder c.in_ok-begin.ensures.whole_after).none c.run_lines.ensures.recorder
