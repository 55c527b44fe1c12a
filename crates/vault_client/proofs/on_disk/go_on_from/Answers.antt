use Rattle.std.proofs.Common.{◌≡◌, ◌≢◌, [], ◌∷◌, refl, ap, sym, subst, ◌∙◌, arith}
use Rattle.std.specs.Option.{option_map_or}
use Rattle.keyed_fn.specs.KeyedFn.{keyed_fn}
use Rattle.sse_script.specs.TextLines.{lines_left}
use Rattle.sse_journal.specs.FileRecords.{records_counted}
use Rattle.sse_outside.specs.Kept.{Kept}
use Rattle.client_recorder.specs.declared.journal_recorder.JournalRecorder.{JournalRecorder}
use Rattle.client_journal.specs.DiskRuns.{IsExact, kept_on}
use Rattle.client_journal.specs.Shows.{prints}
use Rattle.client_journal.proofs.Counts.{counts-took, devices-on}
use Rattle.client_journal.proofs.HoldsExact.{holds_exact}
use Rattle.client_journal.proofs.KeptOnDisk.{behind_reading, kept_at_start, kept_on_disk, kept_still}
use Rattle.doc_vault.specs.Sights.{sight_of}
use Rattle.vault_client.specs.OnDisk.{sight}
use Rattle.vault_client.specs.ResumedRuns.{IsResumedRun}
use Rattle.vault_client.proofs.HeldRuns.{devices-held, held-run, held_known, holds_on}
use Rattle.vault_client.proofs.ResumedRun.{tells_held}
use Rattle.vault_client.proofs.on_disk.go_on_from.Goals as goal
use Rattle.vault_client.specs.Resumptions.{IsRestored}

pub returns-in-Ok-clause-gone_on : goal.returns-in-Ok-clause-gone_on
returns-in-Ok-clause-gone_on g c =
    let f = keyed_fn g.K.Keyed.prf g.K.Keyed.pad in
    let ran = c.resumed_run-status in
    let had = c.in-Ok.ensures.restored in
    let left = lines_left [] (g.S.Source.remaining c.args.source.now) in
    let link = sight_of (g.L.VaultLink.transcript c.args.link.now) (g.L.VaultLink.remote c.args.link.now) in
    let link' = sight_of (g.L.VaultLink.transcript ran.new.link) (g.L.VaultLink.remote ran.new.link) in
    let sink = prints (g.W.Sink.written c.args.sink.now) (g.W.Sink.faults c.args.sink.now) (g.W.Sink.shortages c.args.sink.now) in
    let sink' = prints (g.W.Sink.written ran.new.sink) (g.W.Sink.faults ran.new.sink) (g.W.Sink.shortages ran.new.sink) in
    let status = ran.result in
    let content = g.D.Disk.content c.args.opened.disk in
    let reads = c.in-Ok.ensures.reads in
    let read = c.restore.new.disk in
    let recorder = c.new-recorder.result in
    let kept : JournalRecorder g.row.D.Denot → Kept = λ r. record { records = records_counted r.journal (g.D.Disk.content r.disk); refused = option_map_or (λ payload. payload.items ∷ []) r.refused [] } in
    let first : kept recorder ≡ kept_on (g.D.Disk.content read) =
    ap (λ refused. record { records = records_counted recorder.journal (g.D.Disk.content recorder.disk); refused = option_map_or (λ payload. payload.items ∷ []) refused [] }) c.new-recorder.ensures.none
    ∙ kept_at_start recorder.journal (g.D.Disk.content recorder.disk) (g.D.Disk.images recorder.disk) c.new-recorder.ensures.whole
    ∙ ap (λ d. kept_on (g.D.Disk.content d)) c.new-recorder.ensures.disk in
    let same : kept recorder ≡ kept_on content = first ∙ ap kept_on reads.content_is in
    let P = λ (k : Kept). IsResumedRun f left (sight link (kept_on content) sink) (sight link' k sink') sink sink' status in
    let restored = subst (λ (k : Kept). IsRestored f had.key k c.in-Ok.restart.tools.keys c.in-Ok.restart.shelf c.in-Ok.restart.last.items had.commands) (sym same) had.restored in
    let has : P (kept ran.new.recorder) = subst (λ (k : Kept). IsResumedRun f left (sight link k sink) (sight link' (kept ran.new.recorder) sink') sink sink' status) same (ran.ensures.run left had.key had.commands had.finds restored) in
    let ended = ran.new.recorder in
    let exact : status ≢ 6 → status ≢ 7 → (kept ended ≡ kept_on (g.D.Disk.content ended.disk)) × IsExact (g.D.Disk.content ended.disk) (g.D.Disk.images ended.disk) = λ disk memory.
    let whole = ran.ensures.records.lasts disk memory in (
      ap (λ refused. record { records = records_counted ended.journal (g.D.Disk.content ended.disk); refused = option_map_or (λ payload. payload.items ∷ []) refused [] }) whole.1
          ∙ kept_at_start ended.journal (g.D.Disk.content ended.disk) (g.D.Disk.images ended.disk) whole.0,
      holds_exact ended.journal (g.D.Disk.content ended.disk) (g.D.Disk.images ended.disk) whole.0.holds,
    ) in
    behind_reading g.D.Disk.content g.D.Disk.images g.D.Disk.moment g.D.Disk.left_since c.args.opened.disk read c.into_disk.result status P c.args.opened.journal c.requires.holds reads.content_is reads.quiet
    (kept_on_disk g.D.Disk.content g.D.Disk.images g.D.Disk.moment g.D.Disk.left_since (λ r. r.disk) kept recorder ran.new.recorder read c.into_disk.result status P
    c.new-recorder.ensures.disk c.into_disk.ensures first (λ image is. g.met.D.Disk.counts_now ran.new.recorder.disk (g.D.Disk.moment ran.new.recorder.disk) image (omega arith) is)
    ran.ensures.records.kept_on exact has)

pub returns-in-Err-clause-gone_on : goal.returns-in-Err-clause-gone_on
returns-in-Err-clause-gone_on g c =
    let f = keyed_fn g.K.Keyed.prf g.K.Keyed.pad in
    let left = lines_left [] (g.S.Source.remaining c.args.source.now) in
    let link = sight_of (g.L.VaultLink.transcript c.args.link.now) (g.L.VaultLink.remote c.args.link.now) in
    let sink = prints (g.W.Sink.written c.args.sink.now) (g.W.Sink.faults c.args.sink.now) (g.W.Sink.shortages c.args.sink.now) in
    let sink' = prints (g.W.Sink.written c.finish_vault.new.sink) (g.W.Sink.faults c.finish_vault.new.sink) (g.W.Sink.shortages c.finish_vault.new.sink) in
    let content = g.D.Disk.content c.args.opened.disk in
    let reads = c.in-Err.ensures.reads in
    let read = c.restore.new.disk in
    kept_still g.D.Disk.content g.D.Disk.images g.D.Disk.moment g.D.Disk.left_since c.args.opened.disk read c.finish_vault.result
    (λ k. IsResumedRun f left (sight link (kept_on content) sink) (sight link k sink') sink sink' c.finish_vault.result) c.args.opened.journal c.requires.holds
    (holds_on c.args.opened.journal content (g.D.Disk.content read) (g.D.Disk.images c.args.opened.disk) (g.D.Disk.images read) reads.content_is reads.images_are c.requires.holds) reads.content_is reads.quiet
    (held-run f left (sight link (kept_on content) sink) (sight link (kept_on content) sink') sink sink' c.finish_vault.result c.in-Err.stop c.in-Err.ensures.stopped refl refl refl c.finish_vault.ensures.line c.finish_vault.ensures.status)

pub returns-in-Ok-clause-exact : goal.returns-in-Ok-clause-exact
returns-in-Ok-clause-exact g c = λ disk memory.
    let recorder = c.resumed_run-status.new.recorder in
    subst (λ d. IsExact (g.D.Disk.content d) (g.D.Disk.images d)) (sym c.into_disk.ensures) (holds_exact recorder.journal (g.D.Disk.content recorder.disk) (g.D.Disk.images recorder.disk) (c.resumed_run-status.ensures.records.lasts disk memory).0.holds)

pub returns-in-Err-clause-exact : goal.returns-in-Err-clause-exact
returns-in-Err-clause-exact g c = λ disk memory.
    let reads = c.in-Err.ensures.reads in
    let read = c.restore.new.disk in
    holds_exact c.args.opened.journal (g.D.Disk.content read) (g.D.Disk.images read)
    (holds_on c.args.opened.journal (g.D.Disk.content c.args.opened.disk) (g.D.Disk.content read) (g.D.Disk.images c.args.opened.disk) (g.D.Disk.images read) reads.content_is reads.images_are c.requires.holds)

pub returns-in-Ok-clause-devices : goal.returns-in-Ok-clause-devices
returns-in-Ok-clause-devices g c =
    let ran = c.resumed_run-status in
    record {
      tells = devices-on (g.S.Source.faults c.restore.new.source) (g.S.Source.faults ran.new.source) (g.W.Sink.faults c.args.sink.now) (g.W.Sink.faults ran.new.sink) (g.L.VaultLink.faults c.args.link.now) (g.L.VaultLink.faults ran.new.link)
          (g.D.Disk.faults c.new-recorder.result.disk) (g.D.Disk.faults ran.new.recorder.disk) (g.S.Source.faults c.args.source.now) (g.D.Disk.faults c.args.opened.disk) (g.D.Disk.faults c.into_disk.result) ran.result _
          c.in-Ok.ensures.counts.1 (ap g.D.Disk.faults c.new-recorder.ensures.disk ∙ c.in-Ok.ensures.counts.0) (ap g.D.Disk.faults (sym c.into_disk.ensures)) ran.ensures.devices.tells;
      line = ran.ensures.devices.line;
    }

pub returns-in-Err-clause-devices : goal.returns-in-Err-clause-devices
returns-in-Err-clause-devices g c =
    record {
      tells = devices-held (g.S.Source.faults c.args.source.now) (g.S.Source.faults c.restore.new.source) (g.W.Sink.faults c.args.sink.now) (g.W.Sink.faults c.finish_vault.new.sink) (g.L.VaultLink.faults c.args.link.now)
          (g.D.Disk.faults c.args.opened.disk) (g.D.Disk.faults c.restore.new.disk) c.finish_vault.result _ c.in-Err.stop (tells_held (keyed_fn g.K.Keyed.prf g.K.Keyed.pad) _ _ c.in-Err.stop c.in-Err.ensures.stopped) c.finish_vault.ensures.status
          c.in-Err.ensures.counts;
      line = counts-took _ _ _ c.finish_vault.result _ _ _ _ c.finish_vault.ensures.line;
    }

pub returns-in-Err-clause-known : goal.returns-in-Err-clause-known
returns-in-Err-clause-known g c = held_known c.in-Err.stop c.finish_vault.result (tells_held (keyed_fn g.K.Keyed.prf g.K.Keyed.pad) _ _ c.in-Err.stop c.in-Err.ensures.stopped) c.finish_vault.ensures.status

pub resumed_run-status-requires-clause-restored : goal.resumed_run-status-requires-clause-restored
resumed_run-status-requires-clause-restored g c =
    let f = keyed_fn g.K.Keyed.prf g.K.Keyed.pad in
    let had = c.in-Ok.ensures.restored in
    let recorder = c.new-recorder.result in
    let kept : JournalRecorder g.row.D.Denot → Kept = λ r. record { records = records_counted r.journal (g.D.Disk.content r.disk); refused = option_map_or (λ payload. payload.items ∷ []) r.refused [] } in
    let same : kept recorder ≡ kept_on (g.D.Disk.content c.args.opened.disk) =
    ap (λ refused. record { records = records_counted recorder.journal (g.D.Disk.content recorder.disk); refused = option_map_or (λ payload. payload.items ∷ []) refused [] }) c.new-recorder.ensures.none
    ∙ kept_at_start recorder.journal (g.D.Disk.content recorder.disk) (g.D.Disk.images recorder.disk) c.new-recorder.ensures.whole
    ∙ ap (λ d. kept_on (g.D.Disk.content d)) c.new-recorder.ensures.disk
    ∙ ap kept_on c.in-Ok.ensures.reads.content_is in
    (had.key, had.commands, subst (λ (k : Kept). IsRestored f had.key k c.in-Ok.restart.tools.keys c.in-Ok.restart.shelf c.in-Ok.restart.last.items had.commands) (sym same) had.restored)

pub new-recorder-requires-clause-holds : goal.new-recorder-requires-clause-holds
new-recorder-requires-clause-holds g c =
    let reads = c.in-Ok.ensures.reads in
    let read = c.restore.new.disk in
    holds_on c.args.opened.journal (g.D.Disk.content c.args.opened.disk) (g.D.Disk.content read) (g.D.Disk.images c.args.opened.disk) (g.D.Disk.images read) reads.content_is reads.images_are c.requires.holds
