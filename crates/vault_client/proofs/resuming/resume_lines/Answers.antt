use Rattle.std.proofs.Common.{refl, ◌∙◌}
use Rattle.keyed_fn.specs.KeyedFn.{keyed_fn}
use Rattle.doc_vault.proofs.CountLaws.{counts-stopped, counts-then}
use Rattle.doc_vault.proofs.RecordersLeft.{leaves-same}
use Rattle.doc_vault.specs.Counts.{Counts}
use Rattle.doc_vault.specs.Sights.{sight_of}
use Rattle.vault_client.specs.CatchingUp.{left_by}
use Rattle.vault_client.proofs.ResumedRuns.{resumes-lines, resumes-uncaught, resumes-unprinted}
use Rattle.vault_client.proofs.resuming.resume_lines.Goals as goal

pub returns-in_err-frames-clause-resumes : goal.returns-in_err-frames-clause-resumes
returns-in_err-frames-clause-resumes g c cs keeps accepted recorded =
    resumes-uncaught (keyed_fn g.K.Keyed.prf g.K.Keyed.pad) c.args.tools.now.keys cs recorded accepted _ _ _ _ c.from_residual.result c.in_err-frames.field-0.0 c.from_residual.ensures.1 (c.in_err-frames.ensures.catches cs keeps) refl refl

pub returns-in_err-frames-clause-recorder : goal.returns-in_err-frames-clause-recorder
returns-in_err-frames-clause-recorder g c =
    leaves-same g.R.Recorder.kept g.R.Recorder.moment g.R.Recorder.left_since g.R.Recorder.whole c.args.recorder.now c.requires.whole (g.met.R.Recorder.at_rest c.args.recorder.now c.requires.whole)

pub returns-in_err-frames-clause-counts : goal.returns-in_err-frames-clause-counts
returns-in_err-frames-clause-counts g c =
    counts-stopped _ _ c.from_residual.result c.in_err-frames.field-0.0 c.from_residual.ensures.1
    (c.in_err-frames.ensures.counts (record {
      source = g.S.Source.faults c.args.source.now;
      sink = g.W.Sink.faults c.args.sink.now;
      shortages = g.W.Sink.shortages c.args.sink.now;
      link = g.L.VaultLink.faults c.args.link.now;
      recorder = g.R.Recorder.faults c.args.recorder.now;
    }))

pub returns-in_err-show-clause-resumes : goal.returns-in_err-show-clause-resumes
returns-in_err-show-clause-resumes g c cs keeps accepted recorded =
    let caught = c.in_ok-frames.ensures.catches cs keeps in
    resumes-unprinted (keyed_fn g.K.Keyed.prf g.K.Keyed.pad) c.args.tools.now.keys cs recorded accepted _ _ _ _ caught.0 c.in_ok-frames.frames c.from_residual-in_err-show.result c.in_err-show.field-0.0 c.from_residual-in_err-show.ensures.1
    caught.1 refl c.in_err-show.ensures.prints

pub returns-in_err-show-clause-recorder : goal.returns-in_err-show-clause-recorder
returns-in_err-show-clause-recorder g c =
    leaves-same g.R.Recorder.kept g.R.Recorder.moment g.R.Recorder.left_since g.R.Recorder.whole c.args.recorder.now c.requires.whole (g.met.R.Recorder.at_rest c.args.recorder.now c.requires.whole)

pub returns-in_err-show-clause-counts : goal.returns-in_err-show-clause-counts
returns-in_err-show-clause-counts g c =
    let others : Counts = record {
      source = g.S.Source.faults c.args.source.now;
      sink = g.W.Sink.faults c.args.sink.now;
      shortages = g.W.Sink.shortages c.args.sink.now;
      link = g.L.VaultLink.faults c.catch_up.new.link;
      recorder = g.R.Recorder.faults c.args.recorder.now;
    } in
    counts-then _ _ _ c.from_residual-in_err-show.result (c.in_ok-frames.ensures.counts others)
    (counts-stopped _ _ c.from_residual-in_err-show.result c.in_err-show.field-0.0 c.from_residual-in_err-show.ensures.1 (c.in_err-show.ensures.counts others))

pub run_lines-requires-clause-known : goal.run_lines-requires-clause-known
run_lines-requires-clause-known g c = (left_by c.requires.known.0, c.in_ok-frames.ensures.keeps c.requires.known.0 c.requires.known.1)

pub returns-clause-resumes : goal.returns-clause-resumes
returns-clause-resumes g c cs keeps accepted recorded =
    let caught = c.in_ok-frames.ensures.catches cs keeps in
    resumes-lines (keyed_fn g.K.Keyed.prf g.K.Keyed.pad) c.args.tools.now.keys cs recorded accepted _ _ _
    (record {
      link = sight_of (g.L.VaultLink.transcript c.catch_up.new.link) (g.L.VaultLink.remote c.catch_up.new.link);
      kept = g.R.Recorder.kept c.args.recorder.now;
      written = g.W.Sink.written c.show.new.sink;
    })
    caught.0 c.in_ok-frames.frames (record { caught = caught.1; unkept = refl; printed = c.in_ok-show.ensures.prints }) _ _ c.run_lines.result
    (c.run_lines.ensures.run (left_by cs) (c.in_ok-frames.ensures.keeps cs keeps))

pub returns-clause-counts : goal.returns-clause-counts
returns-clause-counts g c =
    let others : Counts = record {
      source = g.S.Source.faults c.args.source.now;
      sink = g.W.Sink.faults c.args.sink.now;
      shortages = g.W.Sink.shortages c.args.sink.now;
      link = g.L.VaultLink.faults c.catch_up.new.link;
      recorder = g.R.Recorder.faults c.args.recorder.now;
    } in
    counts-then _ _ _ c.run_lines.result (c.in_ok-show.ensures.counts others ∙ c.in_ok-frames.ensures.counts others) c.run_lines.ensures.counts
