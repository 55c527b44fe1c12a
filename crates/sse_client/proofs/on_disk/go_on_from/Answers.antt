use Rattle.std.proofs.Common.{◌≡◌, ◌≢◌, ◌+◌, [], ◌∷◌, refl, ap, sym, subst, ◌∙◌, arith}
use Rattle.std.specs.Option.{option_map_or}
use Rattle.std.specs.Prelude.{IfSome}
use Rattle.keyed_fn.specs.KeyedFn.{IsKeyedFn, keyed_fn}
use Rattle.script_run_texts.specs.Stops.{input_cause, journal_cause, journal_line, journal_status, last_line, stop_status}
use Rattle.script_run_texts.specs.declared.stop_cause.StopCause.TheVariants.{Input as input}
use Rattle.def_script_meaning.specs.Stops as ends
use Rattle.def_script_meaning.specs.Stops.{status_of}
use Rattle.sse_outside.specs.Fronts.{TookOrRose}
use Rattle.sse_script.specs.TextLines.{lines_left}
use Rattle.sse_journal.specs.FileRecords.{records_counted}
use Rattle.sse_outside.specs.Kept.{Kept}
use Rattle.client_recorder.specs.declared.journal_recorder.JournalRecorder.{JournalRecorder}
use Rattle.client_journal.proofs.Counts.{devices-on, devices-unopened}
use Rattle.sse_client.proofs.Devices.{devices-stopped, records_same}
use Rattle.client_journal.proofs.KeptOnDisk.{behind_reading, kept_at_start, kept_on_disk, kept_still}
use Rattle.client_journal.proofs.Counts.{counts-took}
use Rattle.sse_client.proofs.LastLine.{ends_line}
use Rattle.sse_client.proofs.RunsOnDisk.{has_gone_on, has_gone_on-held}
use Rattle.sse_client.specs.ResumedRun.{GoesOnTo, HasEndedAfter, Restores}
use Rattle.client_journal.specs.DiskRuns.{IsExact, kept_on}
use Rattle.sse_client.specs.OnDisk.{HasGoneOn, HeldCause, HeldSource, RecordsCause, held_stop, seen_with}
use Rattle.client_journal.proofs.HoldsExact.{holds_exact}
use Rattle.sse_client.specs.Stands.{outside_of, seen}
use Rattle.sse_client.proofs.on_disk.go_on_from.Goals as goal

pub returns-in-Ok-clause-gone_on : goal.returns-in-Ok-clause-gone_on
returns-in-Ok-clause-gone_on g c =
    let f = keyed_fn g.K.Keyed.prf g.K.Keyed.pad in
    let laws : IsKeyedFn f = record {
      prf_length = g.met.K.Keyed.prf_length;
      prf_bytes = g.met.K.Keyed.prf_bytes;
      pad_length = g.met.K.Keyed.pad_length;
      pad_bytes = g.met.K.Keyed.pad_bytes;
      pad_prefix = g.met.K.Keyed.pad_prefix;
    } in
    let remaining = g.S.Source.remaining c.args.source.now in
    let key = c.in-Ok.restart.client.key in
    let had = c.in-Ok.ensures.restored in
    let told = g.L.Link.transcript c.args.link.now in
    let written = g.W.Sink.written c.args.sink.now in
    let next = c.in-Ok.restart.input.number + 1 in
    let behind = lines_left c.in-Ok.restart.input.pending (g.S.Source.remaining c.restored.new.source) in
    let status = c.gone_on-status.result in
    let told' = g.L.Link.transcript c.gone_on-status.new.link in
    let written' = g.W.Sink.written c.gone_on-status.new.sink in
    let f0 = g.W.Sink.faults c.args.sink.now in
    let f2 = g.W.Sink.faults c.gone_on-status.new.sink in
    let s0 = g.W.Sink.shortages c.args.sink.now in
    let s2 = g.W.Sink.shortages c.gone_on-status.new.sink in
    let read = c.restored.new.disk in
    let recorder = c.new-recorder.result in
    let kept : JournalRecorder g.row.D.Denot → Kept = λ r. record { records = records_counted r.journal (g.D.Disk.content r.disk); refused = option_map_or (λ payload. payload.items ∷ []) r.refused [] } in
    let first : kept recorder ≡ kept_on (g.D.Disk.content read) =
    ap (λ refused. record { records = records_counted recorder.journal (g.D.Disk.content recorder.disk); refused = option_map_or (λ payload. payload.items ∷ []) refused [] }) c.new-recorder.ensures.none
    ∙ kept_at_start recorder.journal (g.D.Disk.content recorder.disk) (g.D.Disk.images recorder.disk) c.new-recorder.ensures.whole
    ∙ ap (λ d. kept_on (g.D.Disk.content d)) c.new-recorder.ensures.disk in
    let P = λ (k : Kept). IfSome remaining (λ bytes. HasGoneOn f bytes (seen_with told (g.D.Disk.content c.args.opened.disk) written) (outside_of (seen told' k) written') status f0 f2 s0 s2) in
    let has : P (kept c.gone_on-status.new.recorder) =
    has_gone_on f laws remaining key had.0 next behind (seen_with told (g.D.Disk.content c.args.opened.disk) written) (outside_of (seen told' (kept c.gone_on-status.new.recorder)) written') status
    f0 f2 s0 s2 c.in-Ok.ensures.found had.1
    (subst (λ k. HasEndedAfter f key had.0 next behind (outside_of (seen told k) written) (outside_of (seen told' (kept c.gone_on-status.new.recorder)) written') status f0 f2 s0 s2)
    (first ∙ ap kept_on c.in-Ok.ensures.kept) (c.gone_on-status.ensures.gone_on had.0 had.2)) in
    let ended = c.gone_on-status.new.recorder in
    let exact : status ≢ 6 → status ≢ 7 → (kept ended ≡ kept_on (g.D.Disk.content ended.disk)) × IsExact (g.D.Disk.content ended.disk) (g.D.Disk.images ended.disk) = λ disk memory.
    let whole = c.gone_on-status.ensures.records.lasts disk memory in (
      ap (λ refused. record { records = records_counted ended.journal (g.D.Disk.content ended.disk); refused = option_map_or (λ payload. payload.items ∷ []) refused [] }) whole.1
          ∙ kept_at_start ended.journal (g.D.Disk.content ended.disk) (g.D.Disk.images ended.disk) whole.0,
      holds_exact ended.journal (g.D.Disk.content ended.disk) (g.D.Disk.images ended.disk) whole.0.holds,
    ) in
    behind_reading g.D.Disk.content g.D.Disk.images g.D.Disk.moment g.D.Disk.left_since c.args.opened.disk read c.into_disk.result status P c.args.opened.journal c.requires.holds c.in-Ok.ensures.kept c.in-Ok.ensures.quiet
    (kept_on_disk g.D.Disk.content g.D.Disk.images g.D.Disk.moment g.D.Disk.left_since (λ r. r.disk) kept recorder c.gone_on-status.new.recorder read c.into_disk.result status P
    c.new-recorder.ensures.disk c.into_disk.ensures first (λ image is. g.met.D.Disk.counts_now c.gone_on-status.new.recorder.disk (g.D.Disk.moment c.gone_on-status.new.recorder.disk) image (omega arith) is)
    c.gone_on-status.ensures.records.kept_on exact has)

pub returns-in-Err-Records-clause-gone_on : goal.returns-in-Err-Records-clause-gone_on
returns-in-Err-Records-clause-gone_on g c =
    let f = keyed_fn g.K.Keyed.prf g.K.Keyed.pad in
    let laws : IsKeyedFn f = record {
      prf_length = g.met.K.Keyed.prf_length;
      prf_bytes = g.met.K.Keyed.prf_bytes;
      pad_length = g.met.K.Keyed.pad_length;
      pad_bytes = g.met.K.Keyed.pad_bytes;
      pad_prefix = g.met.K.Keyed.pad_prefix;
    } in
    let remaining = g.S.Source.remaining c.args.source.now in
    let told = g.L.Link.transcript c.args.link.now in
    let old = g.D.Disk.content c.args.opened.disk in
    let written = g.W.Sink.written c.args.sink.now in
    let now = seen_with told old written in
    let stop = ends.At (journal_cause c.in-Err-Records.stop) in
    let status = c.finish_unopened.result in
    let is : status ≡ status_of stop = c.finish_unopened.ensures.status ∙ ap (λ s. journal_status s) c.in-Err-Records.stop-is in
    let line = subst (λ s. TookOrRose written (g.W.Sink.written c.finish_unopened.new.sink) (journal_line s) (g.W.Sink.faults c.args.sink.now) (g.W.Sink.faults c.finish_unopened.new.sink) (g.W.Sink.shortages c.args.sink.now) (g.W.Sink.shortages c.finish_unopened.new.sink))
    c.in-Err-Records.stop-is c.finish_unopened.ensures.line in
    let goes = subst (λ s. GoesOnTo f (lines_left [] remaining) now now (held_stop s)) c.in-Err-Records.field-0-is (c.in-Err-Records.ensures.stopped told written) in
    kept_still g.D.Disk.content g.D.Disk.images g.D.Disk.moment g.D.Disk.left_since c.args.opened.disk c.restored.new.disk status _ c.args.opened.journal c.requires.holds c.in-Err-Records.ensures.holds c.in-Err-Records.ensures.kept c.in-Err-Records.ensures.quiet
    (has_gone_on-held f laws remaining now (outside_of (seen told (kept_on old)) (g.W.Sink.written c.finish_unopened.new.sink)) stop status (g.W.Sink.faults c.args.sink.now) (g.W.Sink.faults c.finish_unopened.new.sink)
    (g.W.Sink.shortages c.args.sink.now) (g.W.Sink.shortages c.finish_unopened.new.sink) goes refl refl
    (ends_line stop written (g.W.Sink.written c.finish_unopened.new.sink) status (g.W.Sink.faults c.args.sink.now) (g.W.Sink.faults c.args.sink.now) (g.W.Sink.faults c.finish_unopened.new.sink)
    (g.W.Sink.shortages c.args.sink.now) (g.W.Sink.shortages c.args.sink.now) (g.W.Sink.shortages c.finish_unopened.new.sink) is line (λ other. refl) (omega arith)) is)

pub returns-clause-gone_on : goal.returns-clause-gone_on
returns-clause-gone_on g c =
    let f = keyed_fn g.K.Keyed.prf g.K.Keyed.pad in
    let laws : IsKeyedFn f = record {
      prf_length = g.met.K.Keyed.prf_length;
      prf_bytes = g.met.K.Keyed.prf_bytes;
      pad_length = g.met.K.Keyed.pad_length;
      pad_bytes = g.met.K.Keyed.pad_bytes;
      pad_prefix = g.met.K.Keyed.pad_prefix;
    } in
    let remaining = g.S.Source.remaining c.args.source.now in
    let told = g.L.Link.transcript c.args.link.now in
    let old = g.D.Disk.content c.args.opened.disk in
    let written = g.W.Sink.written c.args.sink.now in
    let now = seen_with told old written in
    let stop = ends.At (input_cause c.in-Err-Input.stop) in
    let status = c.finish.result in
    let is : status ≡ status_of stop = c.finish.ensures.status ∙ ap (λ s. stop_status (input s)) c.in-Err-Input.stop-is in
    let line = subst (λ s. TookOrRose written (g.W.Sink.written c.finish.new.sink) (last_line (input s)) (g.W.Sink.faults c.args.sink.now) (g.W.Sink.faults c.finish.new.sink) (g.W.Sink.shortages c.args.sink.now) (g.W.Sink.shortages c.finish.new.sink))
    c.in-Err-Input.stop-is c.finish.ensures.line in
    let goes = subst (λ s. GoesOnTo f (lines_left [] remaining) now now (held_stop s)) c.in-Err-Input.field-0-is (c.in-Err-Input.ensures.stopped told written) in
    kept_still g.D.Disk.content g.D.Disk.images g.D.Disk.moment g.D.Disk.left_since c.args.opened.disk c.restored.new.disk status _ c.args.opened.journal c.requires.holds c.in-Err-Input.ensures.holds c.in-Err-Input.ensures.kept c.in-Err-Input.ensures.quiet
    (has_gone_on-held f laws remaining now (outside_of (seen told (kept_on old)) (g.W.Sink.written c.finish.new.sink)) stop status (g.W.Sink.faults c.args.sink.now) (g.W.Sink.faults c.finish.new.sink)
    (g.W.Sink.shortages c.args.sink.now) (g.W.Sink.shortages c.finish.new.sink) goes refl refl
    (ends_line stop written (g.W.Sink.written c.finish.new.sink) status (g.W.Sink.faults c.args.sink.now) (g.W.Sink.faults c.args.sink.now) (g.W.Sink.faults c.finish.new.sink)
    (g.W.Sink.shortages c.args.sink.now) (g.W.Sink.shortages c.args.sink.now) (g.W.Sink.shortages c.finish.new.sink) is line (λ other. refl) (omega arith)) is)

pub returns-in-Ok-clause-exact : goal.returns-in-Ok-clause-exact
returns-in-Ok-clause-exact g c = λ disk memory.
    let recorder = c.gone_on-status.new.recorder in
    subst (λ d. IsExact (g.D.Disk.content d) (g.D.Disk.images d)) (sym c.into_disk.ensures) (holds_exact recorder.journal (g.D.Disk.content recorder.disk) (g.D.Disk.images recorder.disk) (c.gone_on-status.ensures.records.lasts disk memory).0.holds)

pub returns-in-Err-Records-clause-exact : goal.returns-in-Err-Records-clause-exact
returns-in-Err-Records-clause-exact g c = λ disk memory.
    holds_exact c.args.opened.journal (g.D.Disk.content c.restored.new.disk) (g.D.Disk.images c.restored.new.disk) c.in-Err-Records.ensures.holds

pub returns-clause-exact : goal.returns-clause-exact
returns-clause-exact g c = λ disk memory.
    holds_exact c.args.opened.journal (g.D.Disk.content c.restored.new.disk) (g.D.Disk.images c.restored.new.disk) c.in-Err-Input.ensures.holds

pub gone_on-status-requires-clause-restores : goal.gone_on-status-requires-clause-restores
gone_on-status-requires-clause-restores g c =
    let f = keyed_fn g.K.Keyed.prf g.K.Keyed.pad in
    let had = c.in-Ok.ensures.restored in
    let recorder = c.new-recorder.result in
    let kept : JournalRecorder g.row.D.Denot → Kept = λ r. record { records = records_counted r.journal (g.D.Disk.content r.disk); refused = option_map_or (λ payload. payload.items ∷ []) r.refused [] } in
    let first : kept recorder ≡ kept_on (g.D.Disk.content c.args.opened.disk) =
    ap (λ refused. record { records = records_counted recorder.journal (g.D.Disk.content recorder.disk); refused = option_map_or (λ payload. payload.items ∷ []) refused [] }) c.new-recorder.ensures.none
    ∙ kept_at_start recorder.journal (g.D.Disk.content recorder.disk) (g.D.Disk.images recorder.disk) c.new-recorder.ensures.whole
    ∙ ap (λ d. kept_on (g.D.Disk.content d)) c.new-recorder.ensures.disk
    ∙ ap kept_on c.in-Ok.ensures.kept in
    (had.0, subst (λ k. Restores f c.in-Ok.restart.client.key k had.0) (sym first) had.1, had.2)

pub returns-in-Ok-clause-devices : goal.returns-in-Ok-clause-devices
returns-in-Ok-clause-devices g c =
    let ran = c.gone_on-status in
    record {
      tells = devices-on (g.S.Source.faults c.restored.new.source) (g.S.Source.faults ran.new.source) (g.W.Sink.faults c.args.sink.now) (g.W.Sink.faults ran.new.sink) (g.L.Link.faults c.args.link.now) (g.L.Link.faults ran.new.link)
          (g.D.Disk.faults c.new-recorder.result.disk) (g.D.Disk.faults ran.new.recorder.disk) (g.S.Source.faults c.args.source.now) (g.D.Disk.faults c.args.opened.disk) (g.D.Disk.faults c.into_disk.result) ran.result _
          c.in-Ok.ensures.source.steady (ap g.D.Disk.faults c.new-recorder.ensures.disk ∙ c.in-Ok.ensures.disk.steady) (ap g.D.Disk.faults (sym c.into_disk.ensures)) ran.ensures.devices.tells;
      began = ran.ensures.devices.began;
      line = ran.ensures.devices.line;
    }

pub returns-in-Err-Records-clause-devices : goal.returns-in-Err-Records-clause-devices
returns-in-Err-Records-clause-devices g c =
    let stop = c.in-Err-Records.stop in
    let before = g.D.Disk.faults c.args.opened.disk in
    let now = g.D.Disk.faults c.restored.new.disk in
    let same = subst (HeldSource (g.S.Source.faults c.args.source.now) (g.S.Source.faults c.restored.new.source)) c.in-Err-Records.field-0-is c.in-Err-Records.ensures.source.cause in
    let cause : RecordsCause before now stop = subst (HeldCause before now) c.in-Err-Records.field-0-is c.in-Err-Records.ensures.disk.cause in
    record {
      tells = devices-unopened (g.S.Source.faults c.args.source.now) (g.S.Source.faults c.restored.new.source) (g.W.Sink.faults c.args.sink.now) (g.W.Sink.faults c.finish_unopened.new.sink) (g.L.Link.faults c.args.link.now) (g.L.Link.faults c.args.link.now)
          before now c.finish_unopened.result _ c.finish_unopened.ensures.known same refl
          (λ six. subst (RecordsCause before now) (sym c.in-Err-Records.stop-is ∙ c.finish_unopened.ensures.disk six) cause)
          (λ other. records_same before now stop cause (λ e. other (c.finish_unopened.ensures.status ∙ ap (λ s. journal_status s) (c.in-Err-Records.stop-is ∙ e))));
      began = refl;
      line = counts-took _ _ _ c.finish_unopened.result _ _ _ _ c.finish_unopened.ensures.line;
    }

pub returns-clause-devices : goal.returns-clause-devices
returns-clause-devices g c =
    let stop = c.in-Err-Input.stop in
    let before = g.D.Disk.faults c.args.opened.disk in
    let now = g.D.Disk.faults c.restored.new.disk in
    record {
      tells = devices-stopped (g.S.Source.faults c.args.source.now) (g.S.Source.faults c.restored.new.source) (g.W.Sink.faults c.args.sink.now) (g.W.Sink.faults c.args.sink.now) (g.W.Sink.faults c.finish.new.sink) 0 0 (g.L.Link.faults c.args.link.now) (g.L.Link.faults c.args.link.now)
          before now c.finish.result _ (input stop) (c.finish.ensures.status ∙ ap (λ s. stop_status (input s)) c.in-Err-Input.stop-is)
          (subst (HeldSource (g.S.Source.faults c.args.source.now) (g.S.Source.faults c.restored.new.source)) c.in-Err-Input.field-0-is c.in-Err-Input.ensures.source.cause)
          refl c.finish.ensures.later refl (subst (HeldCause before now) c.in-Err-Input.field-0-is c.in-Err-Input.ensures.disk.cause);
      began = refl;
      line = counts-took _ _ _ c.finish.result _ _ _ _ c.finish.ensures.line;
    }
