use Rattle.std.proofs.Common.{Err, ℕ, Bool, refl, ap, ◌∙◌, arith}
use Rattle.std.specs.Prelude.{Option, is_some}
use Rattle.keyed_fn.specs.KeyedFn.{keyed_fn}
use Rattle.vault_shelf.specs.Shelves.{shelf_of}
use Rattle.script_run_texts.specs.declared.stop_cause.StopCause.TheVariants as runs
use Rattle.vault_script.specs.declared.vault_line.VaultLine.{VaultLine}
use Rattle.vault_script.specs.declared.vault_stop.VaultStop.TheVariants as stops
use Rattle.doc_vault.specs.Counts.{Counts, with_source}
use Rattle.doc_vault.specs.VaultRuns.{commands_in}
use Rattle.doc_vault.proofs.CountLaws.{counts-stopped, counts-then, shows-input}
use Rattle.doc_vault.proofs.LinesTaken.{reads-some, run-begins, run-finished, run-more, run-stopped, run-unread}
use Rattle.doc_vault.proofs.RecordersLeft.{leaves-same, leaves-then}
use Rattle.doc_vault.proofs.lines.run_lines.Goals as goal

pub lines-init : goal.lines-init
lines-init g c = record {
  known = c.requires.known;
  whole = c.requires.whole;
  room = c.requires.room;
  few = c.requires.few;
  run = λ s keeps. run-begins (keyed_fn g.K.Keyed.prf g.K.Keyed.pad) c.args.tools.now.keys s _ _ _ _ keeps;
  recorder = leaves-same g.R.Recorder.kept g.R.Recorder.moment g.R.Recorder.left_since g.R.Recorder.whole c.args.recorder.now c.requires.whole (g.met.R.Recorder.at_rest c.args.recorder.now c.requires.whole);
  counts = refl;
}

pub returns-in-Err-clause-run : goal.returns-in-Err-clause-run
returns-in-Err-clause-run g c s keeps =
    run-unread (keyed_fn g.K.Keyed.prf g.K.Keyed.pad) c.args.tools.now.keys s _ _ _ _ _ _ _ _ _ (c.lines.invariant.run s keeps) c.in-Err.stop c.from.result c.from.ensures c.in-Err.ensures.reads

pub returns-in_err-now-clause-run : goal.returns-in_err-now-clause-run
returns-in_err-now-clause-run g c s keeps =
    let run = c.lines.invariant.run s keeps in
    let reads = reads-some c.lines.input.number _ _ c.in-Ok-Some.field-0 c.in-Ok-Some.line c.in-Ok-Some.field-0-is c.in-Ok-Some.ensures.reads in
    run-stopped (keyed_fn g.K.Keyed.prf g.K.Keyed.pad) c.args.tools.now.keys s _ _ c.number-number.result _ _ _ _ _ _ _ _ _ run c.from_residual.result c.in_err-now.field-0.0 c.from_residual.ensures.1 reads.line reads.takes
    (c.number-number.ensures ∙ c.in-Ok-Some.ensures.counted)
    (c.in_err-now.ensures.turn (shelf_of s (commands_in run.turns)) reads.line run.keeps reads.reads)

pub lines-preserved-in_ok-now : goal.lines-preserved-in_ok-now
lines-preserved-in_ok-now g c = record {
  known =
      let s = c.lines.invariant.known.0 in
      let reads = reads-some c.lines.input.number _ _ c.in-Ok-Some.field-0 c.in-Ok-Some.line c.in-Ok-Some.field-0-is c.in-Ok-Some.ensures.reads in
      let turned = c.in_ok-now.ensures.turn s reads.line c.lines.invariant.known.1 reads.reads in
      (shelf_of s turned.turn.commands, turned.keeps);
  whole = c.in_ok-now.ensures.whole_after;
  room = omega (arith, c.take_line.auto.reply, c.lines.invariant.room);
  few = omega (arith, c.in-Ok-Some.ensures.counted, c.in-Ok-Some.ensures.less (ap (λ (l : Option VaultLine). is_some l) c.in-Ok-Some.field-0-is), c.lines.invariant.few);
  run = λ s keeps.
      let run = c.lines.invariant.run s keeps in
      let reads = reads-some c.lines.input.number _ _ c.in-Ok-Some.field-0 c.in-Ok-Some.line c.in-Ok-Some.field-0-is c.in-Ok-Some.ensures.reads in
      run-more (keyed_fn g.K.Keyed.prf g.K.Keyed.pad) c.args.tools.now.keys s _ _ _ _ _ _ _ _ _ _ _ _ _ _ reads.line run c.in-Ok-Some.ensures.counted c.either-refused.ensures reads.takes
      (c.in_ok-now.ensures.turn (shelf_of s (commands_in run.turns)) reads.line run.keeps reads.reads);
  recorder = leaves-then g.R.Recorder.kept g.R.Recorder.moment g.R.Recorder.left_since g.R.Recorder.whole _ c.lines.recorder c.take_line.new.recorder c.lines.invariant.recorder (g.met.R.Recorder.at_rest c.lines.recorder c.lines.invariant.whole).none c.take_line.ensures.recorder;
  counts =
      let others : Counts = record { source = g.S.Source.faults c.next_line.new.source; sink = 0; shortages = 0; link = 0; recorder = 0 } in
      let before : Counts = record { source = 0; sink = g.W.Sink.faults c.lines.sink; shortages = g.W.Sink.shortages c.lines.sink; link = g.L.VaultLink.faults c.lines.link; recorder = g.R.Recorder.faults c.lines.recorder } in
      c.in_ok-now.ensures.counts others ∙ ap (λ (n : ℕ). with_source n before) c.in-Ok-Some.ensures.source.steady ∙ c.lines.invariant.counts;
}

pub lines-preserved : goal.lines-preserved
lines-preserved g c = record {
  known =
      let s = c.lines.invariant.known.0 in
      let reads = reads-some c.lines.input.number _ _ c.in-Ok-Some.field-0 c.in-Ok-Some.line c.in-Ok-Some.field-0-is c.in-Ok-Some.ensures.reads in
      let turned = c.in_ok-now.ensures.turn s reads.line c.lines.invariant.known.1 reads.reads in
      (shelf_of s turned.turn.commands, turned.keeps);
  whole = c.in_ok-now.ensures.whole_after;
  room = omega (arith, c.take_line.auto.reply, c.lines.invariant.room);
  few = omega (arith, c.in-Ok-Some.ensures.counted, c.in-Ok-Some.ensures.less (ap (λ (l : Option VaultLine). is_some l) c.in-Ok-Some.field-0-is), c.lines.invariant.few);
  run = λ s keeps.
      let run = c.lines.invariant.run s keeps in
      let reads = reads-some c.lines.input.number _ _ c.in-Ok-Some.field-0 c.in-Ok-Some.line c.in-Ok-Some.field-0-is c.in-Ok-Some.ensures.reads in
      run-more (keyed_fn g.K.Keyed.prf g.K.Keyed.pad) c.args.tools.now.keys s _ _ _ _ _ _ _ _ _ _ _ _ _ _ reads.line run c.in-Ok-Some.ensures.counted c.either-refused.ensures reads.takes
      (c.in_ok-now.ensures.turn (shelf_of s (commands_in run.turns)) reads.line run.keeps reads.reads);
  recorder = leaves-then g.R.Recorder.kept g.R.Recorder.moment g.R.Recorder.left_since g.R.Recorder.whole _ c.lines.recorder c.take_line.new.recorder c.lines.invariant.recorder (g.met.R.Recorder.at_rest c.lines.recorder c.lines.invariant.whole).none c.take_line.ensures.recorder;
  counts =
      let others : Counts = record { source = g.S.Source.faults c.next_line.new.source; sink = 0; shortages = 0; link = 0; recorder = 0 } in
      let before : Counts = record { source = 0; sink = g.W.Sink.faults c.lines.sink; shortages = g.W.Sink.shortages c.lines.sink; link = g.L.VaultLink.faults c.lines.link; recorder = g.R.Recorder.faults c.lines.recorder } in
      c.in_ok-now.ensures.counts others ∙ ap (λ (n : ℕ). with_source n before) c.in-Ok-Some.ensures.source.steady ∙ c.lines.invariant.counts;
}

pub returns-in-Ok-None-clause-run : goal.returns-in-Ok-None-clause-run
returns-in-Ok-None-clause-run g c s keeps =
    run-finished (keyed_fn g.K.Keyed.prf g.K.Keyed.pad) c.args.tools.now.keys s _ _ _ _ _ _ _ _ _ (c.lines.invariant.run s keeps) c.in-Ok-None.field-0 c.in-Ok-None.field-0-is c.in-Ok-None.ensures.reads

pub returns-in-Err-clause-counts : goal.returns-in-Err-clause-counts
returns-in-Err-clause-counts g c =
    let before : Counts = record { source = 0; sink = g.W.Sink.faults c.lines.sink; shortages = g.W.Sink.shortages c.lines.sink; link = g.L.VaultLink.faults c.lines.link; recorder = g.R.Recorder.faults c.lines.recorder } in
    counts-then {T = Bool} _ _ _ (Err c.from.result) c.lines.invariant.counts
    (counts-stopped {T = Bool} _ _ (Err c.from.result) (stops.Run (runs.Input c.in-Err.stop)) c.from.ensures (shows-input _ _ before c.in-Err.stop c.next_line.ensures.later c.in-Err.ensures.source.cause))

pub returns-in_err-now-clause-counts : goal.returns-in_err-now-clause-counts
returns-in_err-now-clause-counts g c =
    let others : Counts = record { source = g.S.Source.faults c.next_line.new.source; sink = 0; shortages = 0; link = 0; recorder = 0 } in
    let before : Counts = record { source = 0; sink = g.W.Sink.faults c.lines.sink; shortages = g.W.Sink.shortages c.lines.sink; link = g.L.VaultLink.faults c.lines.link; recorder = g.R.Recorder.faults c.lines.recorder } in
    counts-then _ _ _ c.from_residual.result (ap (λ (n : ℕ). with_source n before) c.in-Ok-Some.ensures.source.steady ∙ c.lines.invariant.counts)
    (counts-stopped _ _ c.from_residual.result c.in_err-now.field-0.0 c.from_residual.ensures.1 (c.in_err-now.ensures.counts others))

pub returns-in-Ok-None-clause-counts : goal.returns-in-Ok-None-clause-counts
returns-in-Ok-None-clause-counts g c =
    let before : Counts = record { source = 0; sink = g.W.Sink.faults c.lines.sink; shortages = g.W.Sink.shortages c.lines.sink; link = g.L.VaultLink.faults c.lines.link; recorder = g.R.Recorder.faults c.lines.recorder } in
    ap (λ (n : ℕ). with_source n before) c.in-Ok-None.ensures.source.steady ∙ c.lines.invariant.counts

pub returns-in_err-now-clause-recorder : goal.returns-in_err-now-clause-recorder
returns-in_err-now-clause-recorder g c =
    leaves-then g.R.Recorder.kept g.R.Recorder.moment g.R.Recorder.left_since g.R.Recorder.whole _ c.lines.recorder c.take_line.new.recorder c.lines.invariant.recorder (g.met.R.Recorder.at_rest c.lines.recorder c.lines.invariant.whole).none c.take_line.ensures.recorder

pub returns-in-Ok-None-clause-at_end : goal.returns-in-Ok-None-clause-at_end
returns-in-Ok-None-clause-at_end g c = c.in-Ok-None.ensures.at_end (ap (λ (l : Option VaultLine). is_some l) c.in-Ok-None.field-0-is)
