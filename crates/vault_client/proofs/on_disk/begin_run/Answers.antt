use Rattle.std.proofs.Common.{◌≡◌, ◌≢◌, ◌≤◌, [], ◌∷◌, inl, inr, refl, ap, sym, subst, ◌∙◌, arith}
use Rattle.std.proofs.lemmas.Bool.{true≢false}
use Rattle.std.specs.Option.{option_map_or}
use Rattle.keyed_fn.specs.KeyedFn.{keyed_fn}
use Rattle.script_run_texts.specs.Stops.{journal_status}
use Rattle.script_run_texts.specs.declared.journal_stop.JournalStop.TheVariants as journals
use Rattle.sse_journal.specs.FileRecords.{records_counted}
use Rattle.sse_outside.specs.Kept.{Kept}
use Rattle.sse_script.specs.TextLines.{lines_left}
use Rattle.client_recorder.specs.declared.journal_recorder.JournalRecorder.{JournalRecorder}
use Rattle.client_journal.proofs.Counts.{counts-took, devices-on, devices-unopened}
use Rattle.client_journal.proofs.KeptOnDisk.{behind_start, gives_own, kept_at_start, kept_on_disk}
use Rattle.client_journal.proofs.NotBegun.{IfSome-both, IfSome-then, begun_low, for_all, not_begun}
use Rattle.client_journal.proofs.HoldsExact.{holds_exact}
use Rattle.client_journal.specs.DiskRuns.{IsExact, IsNotBegun, kept_on}
use Rattle.client_journal.specs.Shows.{prints}
use Rattle.doc_vault.specs.Sights.{sight_of}
use Rattle.vault_client.specs.OnDisk.{sight}
use Rattle.vault_client.specs.WholeRuns.{IsVaultRun}
use Rattle.vault_client.proofs.Unopened.{unopened}
use Rattle.vault_client.proofs.on_disk.begin_run.Goals as goal

pub returns-in-Ok-clause-begun : goal.returns-in-Ok-clause-begun
returns-in-Ok-clause-begun g c =
    let f = keyed_fn g.K.Keyed.prf g.K.Keyed.pad in
    let ran = c.whole_run-status in
    let left = lines_left [] (g.S.Source.remaining c.args.source.now) in
    let link = sight_of (g.L.VaultLink.transcript c.args.link.now) (g.L.VaultLink.remote c.args.link.now) in
    let link' = sight_of (g.L.VaultLink.transcript ran.new.link) (g.L.VaultLink.remote ran.new.link) in
    let status = ran.result in
    let sink = prints (g.W.Sink.written c.args.sink.now) (g.W.Sink.faults c.args.sink.now) (g.W.Sink.shortages c.args.sink.now) in
    let sink' = prints (g.W.Sink.written ran.new.sink) (g.W.Sink.faults ran.new.sink) (g.W.Sink.shortages ran.new.sink) in
    let begun = c.begin.new.disk in
    let recorder = c.new-recorder.result in
    let kept : JournalRecorder g.row.D.Denot → Kept = λ r. record { records = records_counted r.journal (g.D.Disk.content r.disk); refused = option_map_or (λ payload. payload.items ∷ []) r.refused [] } in
    let first : kept recorder ≡ kept_on (g.D.Disk.content begun) =
    ap (λ refused. record { records = records_counted recorder.journal (g.D.Disk.content recorder.disk); refused = option_map_or (λ payload. payload.items ∷ []) refused [] }) c.new-recorder.ensures.none
    ∙ kept_at_start recorder.journal (g.D.Disk.content recorder.disk) (g.D.Disk.images recorder.disk) c.new-recorder.ensures.whole
    ∙ ap (λ d. kept_on (g.D.Disk.content d)) c.new-recorder.ensures.disk in
    let P = λ (k : Kept). IsVaultRun f left (sight link (kept_on (g.D.Disk.content begun)) sink) (sight link' k sink') sink sink' status in
    let has : P (kept ran.new.recorder) = subst (λ (k : Kept). IsVaultRun f left (sight link k sink) (sight link' (kept ran.new.recorder) sink') sink sink' status) first ran.ensures.run in
    let ended = ran.new.recorder in
    let exact : status ≢ 6 → status ≢ 7 → (kept ended ≡ kept_on (g.D.Disk.content ended.disk)) × IsExact (g.D.Disk.content ended.disk) (g.D.Disk.images ended.disk) = λ disk memory.
    let whole = ran.ensures.records.lasts disk memory in (
      ap (λ refused. record { records = records_counted ended.journal (g.D.Disk.content ended.disk); refused = option_map_or (λ payload. payload.items ∷ []) refused [] }) whole.1
          ∙ kept_at_start ended.journal (g.D.Disk.content ended.disk) (g.D.Disk.images ended.disk) whole.0,
      holds_exact ended.journal (g.D.Disk.content ended.disk) (g.D.Disk.images ended.disk) whole.0.holds,
    ) in
    inr (behind_start g.D.Disk.content g.D.Disk.images g.D.Disk.moment g.D.Disk.left_since c.args.disk begun c.into_disk.result status P
    (λ (k : Kept). IsVaultRun f left (sight link (kept_on (g.D.Disk.content c.args.disk)) sink) (sight link' k sink') sink sink' status)
    (λ k is. subst (λ records. IsVaultRun f left (sight link (record { records = records; refused = [] }) sink) (sight link' k sink') sink sink' status) c.in-Ok.ensures.same_records is)
    (gives_own (g.D.Disk.content c.args.disk) _ (λ file is. ([], is.gives)) c.in-Ok.ensures.begun) c.in-Ok.ensures.same_records (elim c.in-Ok.ensures.any_moment [ inl synced ↦ synced | inr refused ↦ absurd (true≢false (sym refused.0)) ])
    (kept_on_disk g.D.Disk.content g.D.Disk.images g.D.Disk.moment g.D.Disk.left_since (λ r. r.disk) kept recorder ran.new.recorder begun c.into_disk.result status P
    c.new-recorder.ensures.disk c.into_disk.ensures first (λ image is. g.met.D.Disk.counts_now ran.new.recorder.disk (g.D.Disk.moment ran.new.recorder.disk) image (omega arith) is)
    ran.ensures.records.kept_on exact has))

pub returns-in-Err-clause-begun : goal.returns-in-Err-clause-begun
returns-in-Err-clause-begun g c =
    let stop = c.in-Err.stop in
    let content = g.D.Disk.content c.args.disk in
    inl (
      unopened IsNotBegun stop (sight_of (g.L.VaultLink.transcript c.args.link.now) (g.L.VaultLink.remote c.args.link.now)) content (g.D.Disk.content c.begin.new.disk)
          (prints (g.W.Sink.written c.args.sink.now) (g.W.Sink.faults c.args.sink.now) (g.W.Sink.shortages c.args.sink.now))
          (prints (g.W.Sink.written c.finish_unopened.new.sink) (g.W.Sink.faults c.finish_unopened.new.sink) (g.W.Sink.shortages c.finish_unopened.new.sink)) c.finish_unopened.result
          (not_begun stop content (λ e. c.in-Err.ensures.has_records (search e)) (λ e. IfSome-then content _ _ (λ file is. is.0) (c.in-Err.ensures.no_journal (search e)))
          (λ number e. c.in-Err.ensures.never_bad_record number (search e)) (λ e. c.in-Err.ensures.never_wrong_key (search e)))
          (λ disk memory. c.in-Err.ensures.same_refused (λ e. disk (let same : stop ≡ journals.Disk = cc in same)) (λ e. memory (let same : stop ≡ journals.Memory = cc in same)))
          c.finish_unopened.ensures.line c.finish_unopened.ensures.status,
      elim c.in-Err.ensures.any_moment [ inl synced ↦ inl synced | inr refused ↦ inr refused.1 ],
    )

pub returns-in-Ok-clause-exact : goal.returns-in-Ok-clause-exact
returns-in-Ok-clause-exact g c = λ disk memory other.
    let recorder = c.whole_run-status.new.recorder in
    subst (λ d. IsExact (g.D.Disk.content d) (g.D.Disk.images d)) (sym c.into_disk.ensures) (holds_exact recorder.journal (g.D.Disk.content recorder.disk) (g.D.Disk.images recorder.disk) (c.whole_run-status.ensures.records.lasts disk memory).0.holds)

pub returns-in-Err-clause-exact : goal.returns-in-Err-clause-exact
returns-in-Err-clause-exact g c = λ disk memory other. elim c.finish_unopened.ensures.known [
  | inl six ↦ absurd (disk six)
  | inr (inl seven) ↦ absurd (memory seven)
  | inr (inr (inl ten)) ↦ absurd (other ten)
  | inr (inr (inr eleven)) ↦ absurd (let key = c.finish_unopened.ensures.key eleven in c.in-Err.ensures.never_wrong_key (search key))
]

pub returns-in-Ok-clause-devices : goal.returns-in-Ok-clause-devices
returns-in-Ok-clause-devices g c =
    let ran = c.whole_run-status in
    record {
      tells = devices-on (g.S.Source.faults c.args.source.now) (g.S.Source.faults ran.new.source) (g.W.Sink.faults c.args.sink.now) (g.W.Sink.faults ran.new.sink) (g.L.VaultLink.faults c.args.link.now) (g.L.VaultLink.faults ran.new.link)
          (g.D.Disk.faults c.new-recorder.result.disk) (g.D.Disk.faults ran.new.recorder.disk) (g.S.Source.faults c.args.source.now) (g.D.Disk.faults c.args.disk) (g.D.Disk.faults c.into_disk.result) ran.result _
          refl (ap g.D.Disk.faults c.new-recorder.ensures.disk ∙ c.in-Ok.ensures.steady (λ e. absurd (cc))) (ap g.D.Disk.faults (sym c.into_disk.ensures)) ran.ensures.devices.tells;
      line = ran.ensures.devices.line;
    }

pub returns-in-Err-clause-devices : goal.returns-in-Err-clause-devices
returns-in-Err-clause-devices g c =
    let stop = c.in-Err.stop in
    record {
      tells = devices-unopened (g.S.Source.faults c.args.source.now) (g.S.Source.faults c.args.source.now) (g.W.Sink.faults c.args.sink.now) (g.W.Sink.faults c.finish_unopened.new.sink) (g.L.VaultLink.faults c.args.link.now) (g.L.VaultLink.faults c.args.link.now)
          (g.D.Disk.faults c.args.disk) (g.D.Disk.faults c.begin.new.disk) c.finish_unopened.result _ c.finish_unopened.ensures.known refl refl
          (λ six. let e = c.finish_unopened.ensures.disk six in c.in-Err.ensures.failed (search e))
          (λ other. c.in-Err.ensures.steady (λ e. other (c.finish_unopened.ensures.status ∙ ap (λ s. journal_status s) (let same : stop ≡ journals.Disk = cc in same))));
      line = counts-took _ _ _ c.finish_unopened.result _ _ _ _ c.finish_unopened.ensures.line;
    }

pub returns-in-Ok-clause-accepted : goal.returns-in-Ok-clause-accepted
returns-in-Ok-clause-accepted g c = for_all (g.D.Disk.content c.args.disk) _ (λ file none. c.whole_run-status.ensures.opened)

pub returns-in-Err-clause-accepted : goal.returns-in-Err-clause-accepted
returns-in-Err-clause-accepted g c =
    let stop = c.in-Err.stop in
    IfSome-then (g.D.Disk.content c.args.disk) _ _ (λ file goes none ten.
    let low : c.finish_unopened.result ≤ 9 = begun_low stop c.finish_unopened.result c.finish_unopened.ensures.status
    (λ disk memory. let ok = goes none (λ e. disk (let same : stop ≡ journals.Disk = cc in same)) (λ e. memory (let same : stop ≡ journals.Memory = cc in same)) in cc) in
    omega (arith, low, ten)) c.in-Err.ensures.accepted

pub returns-in-Ok-clause-refused : goal.returns-in-Ok-clause-refused
returns-in-Ok-clause-refused g c =
    IfSome-both (g.D.Disk.content c.args.disk) _ _ _ (λ file records journal either. elim either [
      | inl some ↦ absurd (let no = records some (λ e. absurd (cc)) (λ e. absurd (cc)) in cc)
      | inr no_journal ↦ absurd (let no = journal no_journal (λ e. absurd (cc)) (λ e. absurd (cc)) in cc)
    ]) c.in-Ok.ensures.has_records_refused c.in-Ok.ensures.no_journal_refused
