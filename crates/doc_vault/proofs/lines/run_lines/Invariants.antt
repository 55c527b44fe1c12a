use Rattle.std.proofs.Common.{◌≡◌, ◌≤◌, ◌+◌, ◌^◌, length}
use Rattle.keyed_fn.specs.KeyedFn.{keyed_fn}
use Rattle.sse_script.specs.TextLines.{bytes_to_come, lines_left}
use Rattle.vault_shelf.specs.Shelves as meant
use Rattle.vault_shelf.specs.ShelfView.{Keeps}
use Rattle.doc_vault.specs.Counts.{Counts}
use Rattle.doc_vault.specs.RecordersLeft.{LeavesRecorder}
use Rattle.doc_vault.specs.ScriptRuns.{HasRun}
use Rattle.doc_vault.specs.Sights.{sight_of}
use Rattle.doc_vault.proofs.lines.run_lines.Given as goal

abbrev pub invariant-lines : goal.invariant-lines
invariant-lines g l = record {
  known : (s : meant.Shelf) × Keeps l.shelf s;
  whole : g.R.Recorder.whole l.recorder;
  room : 65604 ≤ length l.reply;
  few : l.input.number + bytes_to_come l.input.pending (g.S.Source.handed_out l.source) ≤ 2 ^ 63;
  run : (s : meant.Shelf) → Keeps l.fn.shelf s → HasRun (keyed_fn g.K.Keyed.prf g.K.Keyed.pad) l.tools.keys s l.fn.input.number l.input.number
      (lines_left l.fn.input.pending (g.S.Source.remaining l.fn.source)) (lines_left l.input.pending (g.S.Source.remaining l.source))
      (record { link = sight_of (g.L.VaultLink.transcript l.fn.link) (g.L.VaultLink.remote l.fn.link); kept = g.R.Recorder.kept l.fn.recorder; written = g.W.Sink.written l.fn.sink })
      (record { link = sight_of (g.L.VaultLink.transcript l.link) (g.L.VaultLink.remote l.link); kept = g.R.Recorder.kept l.recorder; written = g.W.Sink.written l.sink }) l.shelf l.refused;
  recorder : LeavesRecorder g.R.Recorder.kept g.R.Recorder.moment g.R.Recorder.left_since g.R.Recorder.whole l.fn.recorder l.recorder;
  counts : ◌≡◌ {A = Counts}
      (record { source = g.S.Source.faults l.source; sink = g.W.Sink.faults l.sink; shortages = g.W.Sink.shortages l.sink; link = g.L.VaultLink.faults l.link; recorder = g.R.Recorder.faults l.recorder })
      (record { source = g.S.Source.faults l.fn.source; sink = g.W.Sink.faults l.fn.sink; shortages = g.W.Sink.shortages l.fn.sink; link = g.L.VaultLink.faults l.fn.link; recorder = g.R.Recorder.faults l.fn.recorder });
}

abbrev pub decreases-lines : goal.decreases-lines
decreases-lines g l = bytes_to_come l.input.pending (g.S.Source.handed_out l.source)
