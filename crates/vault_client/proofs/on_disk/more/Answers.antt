use Rattle.std.proofs.Common.{◌≡◌, ◌∙◌, [], refl, ap, inl, inr, subst, sym}
use Rattle.std.proofs.lemmas.Bool.{true≢false}
use Rattle.keyed_fn.specs.KeyedFn.{keyed_fn}
use Rattle.script_run_texts.specs.Stops.{journal_status}
use Rattle.script_run_texts.specs.declared.journal_stop.JournalStop.TheVariants as journals
use Rattle.sse_script.specs.TextLines.{lines_left}
use Rattle.client_journal.specs.DiskRuns.{IsNotReopened, kept_on}
use Rattle.client_journal.specs.Shows.{prints}
use Rattle.client_journal.proofs.Counts.{counts-took, devices-on, devices-unopened}
use Rattle.client_journal.proofs.KeptOnDisk.{behind_start, gives_own}
use Rattle.client_journal.proofs.NotBegun.{IfSome-then, for_all, not_reopened}
use Rattle.doc_vault.specs.Sights.{sight_of}
use Rattle.vault_client.specs.OnDisk.{sight}
use Rattle.vault_client.specs.ResumedRuns.{IsResumedRun}
use Rattle.vault_client.proofs.Unopened.{unopened}
use Rattle.vault_client.proofs.on_disk.more.Goals as goal

pub returns-in-Ok-clause-more : goal.returns-in-Ok-clause-more
returns-in-Ok-clause-more g c =
    let f = keyed_fn g.K.Keyed.prf g.K.Keyed.pad in
    let ran = c.go_on_from in
    let left = lines_left [] (g.S.Source.remaining c.args.source.now) in
    let link = sight_of (g.L.VaultLink.transcript c.args.link.now) (g.L.VaultLink.remote c.args.link.now) in
    let link' = sight_of (g.L.VaultLink.transcript ran.new.link) (g.L.VaultLink.remote ran.new.link) in
    let sink = prints (g.W.Sink.written c.args.sink.now) (g.W.Sink.faults c.args.sink.now) (g.W.Sink.shortages c.args.sink.now) in
    let sink' = prints (g.W.Sink.written ran.new.sink) (g.W.Sink.faults ran.new.sink) (g.W.Sink.shortages ran.new.sink) in
    inr (behind_start g.D.Disk.content g.D.Disk.images g.D.Disk.moment g.D.Disk.left_since c.args.disk c.reopen.new.disk ran.result.1 ran.result.0
    (λ k. IsResumedRun f left (sight link (kept_on (g.D.Disk.content c.reopen.new.disk)) sink) (sight link' k sink') sink sink' ran.result.0)
    (λ k. IsResumedRun f left (sight link (kept_on (g.D.Disk.content c.args.disk)) sink) (sight link' k sink') sink sink' ran.result.0)
    (λ k is. subst (λ records. IsResumedRun f left (sight link (record { records = records; refused = [] }) sink) (sight link' k sink') sink sink' ran.result.0) c.in-Ok.ensures.same_records is)
    (gives_own (g.D.Disk.content c.args.disk) _ (λ file is. (is.payloads, is.gives)) c.in-Ok.ensures.reopened) c.in-Ok.ensures.same_records (elim c.in-Ok.ensures.any_moment [ inl synced ↦ synced | inr refused ↦ absurd (true≢false (sym refused.0)) ]) ran.ensures.gone_on)

pub returns-in-Err-clause-more : goal.returns-in-Err-clause-more
returns-in-Err-clause-more g c =
    let stop = c.in-Err.stop in
    let content = g.D.Disk.content c.args.disk in
    inl (
      unopened IsNotReopened stop (sight_of (g.L.VaultLink.transcript c.args.link.now) (g.L.VaultLink.remote c.args.link.now)) content (g.D.Disk.content c.reopen.new.disk)
          (prints (g.W.Sink.written c.args.sink.now) (g.W.Sink.faults c.args.sink.now) (g.W.Sink.shortages c.args.sink.now))
          (prints (g.W.Sink.written c.finish_unopened.new.sink) (g.W.Sink.faults c.finish_unopened.new.sink) (g.W.Sink.shortages c.finish_unopened.new.sink)) c.finish_unopened.result
          (not_reopened stop content (λ e. c.in-Err.ensures.no_journal (search e)) (λ e. c.in-Err.ensures.never_has_records (search e)) (λ number e. c.in-Err.ensures.never_bad_record number (search e)) (λ e. c.in-Err.ensures.never_wrong_key (search e)))
          (λ disk memory. c.in-Err.ensures.same_refused (λ e. disk (let same : stop ≡ journals.Disk = cc in same)) (λ e. memory (let same : stop ≡ journals.Memory = cc in same)))
          c.finish_unopened.ensures.line c.finish_unopened.ensures.status,
      elim c.in-Err.ensures.any_moment [ inl synced ↦ inl synced | inr refused ↦ inr refused.1 ],
    )

pub returns-in-Ok-clause-accepted : goal.returns-in-Ok-clause-accepted
returns-in-Ok-clause-accepted g c =
    let f = keyed_fn g.K.Keyed.prf g.K.Keyed.pad in
    let ran = c.go_on_from in
    let left = lines_left [] (g.S.Source.remaining c.args.source.now) in
    let link = sight_of (g.L.VaultLink.transcript c.args.link.now) (g.L.VaultLink.remote c.args.link.now) in
    let link' = sight_of (g.L.VaultLink.transcript ran.new.link) (g.L.VaultLink.remote ran.new.link) in
    let sink = prints (g.W.Sink.written c.args.sink.now) (g.W.Sink.faults c.args.sink.now) (g.W.Sink.shortages c.args.sink.now) in
    let sink' = prints (g.W.Sink.written ran.new.sink) (g.W.Sink.faults ran.new.sink) (g.W.Sink.shortages ran.new.sink) in
    for_all (g.D.Disk.content c.args.disk) _ (λ file some disk memory.
    behind_start g.D.Disk.content g.D.Disk.images g.D.Disk.moment g.D.Disk.left_since c.args.disk c.reopen.new.disk ran.result.1 ran.result.0
    (λ k. IsResumedRun f left (sight link (kept_on (g.D.Disk.content c.reopen.new.disk)) sink) (sight link' k sink') sink sink' ran.result.0)
    (λ k. IsResumedRun f left (sight link (kept_on (g.D.Disk.content c.args.disk)) sink) (sight link' k sink') sink sink' ran.result.0)
    (λ k is. subst (λ records. IsResumedRun f left (sight link (record { records = records; refused = [] }) sink) (sight link' k sink') sink sink' ran.result.0) c.in-Ok.ensures.same_records is)
    (gives_own (g.D.Disk.content c.args.disk) _ (λ file is. (is.payloads, is.gives)) c.in-Ok.ensures.reopened) c.in-Ok.ensures.same_records (elim c.in-Ok.ensures.any_moment [ inl synced ↦ synced | inr refused ↦ absurd (true≢false (sym refused.0)) ]) ran.ensures.gone_on)

pub returns-in-Err-clause-accepted : goal.returns-in-Err-clause-accepted
returns-in-Err-clause-accepted g c =
    let stop = c.in-Err.stop in
    let is = c.finish_unopened.ensures.status in
    IfSome-then (g.D.Disk.content c.args.disk) _ _ (λ file goes some disk memory. absurd (
    let ok = goes some (λ e. disk (is ∙ ap (λ s. journal_status s) (let same : stop ≡ journals.Disk = cc in same))) (λ e. memory (is ∙ ap (λ s. journal_status s) (let same : stop ≡ journals.Memory = cc in same))) in cc)) c.in-Err.ensures.accepted

pub returns-in-Ok-clause-refused : goal.returns-in-Ok-clause-refused
returns-in-Ok-clause-refused g c =
    IfSome-then (g.D.Disk.content c.args.disk) _ _ (λ file ends none. absurd (let no_error = ends none (λ e. absurd (cc)) (λ e. absurd (cc)) in cc)) c.in-Ok.ensures.no_journal_refused

pub returns-in-Err-clause-refused : goal.returns-in-Err-clause-refused
returns-in-Err-clause-refused g c =
    let stop = c.in-Err.stop in
    let is = c.finish_unopened.ensures.status in
    IfSome-then (g.D.Disk.content c.args.disk) _ _ (λ file ends none disk memory.
    let no = ends none (λ e. disk (is ∙ ap (λ s. journal_status s) (let same : stop ≡ journals.Disk = cc in same))) (λ e. memory (is ∙ ap (λ s. journal_status s) (let same : stop ≡ journals.Memory = cc in same))) in
    is ∙ ap (λ s. journal_status s) (let same : stop ≡ journals.NoJournal = cc in same)) c.in-Err.ensures.no_journal_refused

pub returns-in-Err-clause-exact : goal.returns-in-Err-clause-exact
returns-in-Err-clause-exact g c = λ disk memory other. elim c.finish_unopened.ensures.known [
  | inl six ↦ absurd (disk six)
  | inr (inl seven) ↦ absurd (memory seven)
  | inr (inr (inl ten)) ↦ absurd (other ten)
  | inr (inr (inr eleven)) ↦ absurd (let key = c.finish_unopened.ensures.key eleven in c.in-Err.ensures.never_wrong_key (search key))
]

pub returns-in-Ok-clause-devices : goal.returns-in-Ok-clause-devices
returns-in-Ok-clause-devices g c =
    let ran = c.go_on_from in
    record {
      tells = devices-on (g.S.Source.faults c.args.source.now) (g.S.Source.faults ran.new.source) (g.W.Sink.faults c.args.sink.now) (g.W.Sink.faults ran.new.sink) (g.L.VaultLink.faults c.args.link.now) (g.L.VaultLink.faults ran.new.link)
          (g.D.Disk.faults c.reopen.new.disk) (g.D.Disk.faults ran.result.1) (g.S.Source.faults c.args.source.now) (g.D.Disk.faults c.args.disk) (g.D.Disk.faults ran.result.1) ran.result.0 _
          refl (c.in-Ok.ensures.steady (λ e. absurd (cc))) refl ran.ensures.devices.tells;
      line = ran.ensures.devices.line;
    }

pub returns-in-Err-clause-devices : goal.returns-in-Err-clause-devices
returns-in-Err-clause-devices g c =
    let stop = c.in-Err.stop in
    record {
      tells = devices-unopened (g.S.Source.faults c.args.source.now) (g.S.Source.faults c.args.source.now) (g.W.Sink.faults c.args.sink.now) (g.W.Sink.faults c.finish_unopened.new.sink) (g.L.VaultLink.faults c.args.link.now) (g.L.VaultLink.faults c.args.link.now)
          (g.D.Disk.faults c.args.disk) (g.D.Disk.faults c.reopen.new.disk) c.finish_unopened.result _ c.finish_unopened.ensures.known refl refl
          (λ six. let e = c.finish_unopened.ensures.disk six in c.in-Err.ensures.failed (search e))
          (λ other. c.in-Err.ensures.steady (λ e. other (c.finish_unopened.ensures.status ∙ ap (λ s. journal_status s) (let same : stop ≡ journals.Disk = cc in same))));
      line = counts-took _ _ _ c.finish_unopened.result _ _ _ _ c.finish_unopened.ensures.line;
    }
