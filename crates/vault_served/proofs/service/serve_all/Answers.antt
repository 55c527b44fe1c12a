use Rattle.std.proofs.Common.{◌≡◌, Err, inl, inr, refl, ap, sym, ◌∙◌}
use Rattle.std.proofs.lemmas.Bool.{true≢false}
use Rattle.service_places.specs.declared.stop.ServiceStop.TheVariants.{NoJournal}
use Rattle.service_places.proofs.KeptFiles.{kept_file}
use Rattle.service_places.proofs.KnownValues.{if_some, if_some_both}
use Rattle.vault_served.proofs.StopLaws.{never_no_journal, never_served, no_journal_of, of_either}
use Rattle.vault_served.proofs.service.serve_all.Goals as goal

-- the store wasn't started: no connection was asked for, and the file has the records that it had

pub returns-in-Err-clause-memory : goal.returns-in-Err-clause-memory
returns-in-Err-clause-memory g c = λ e. (refl, kept_file g.D.Disk.content g.D.Disk.images g.D.Disk.moment g.D.Disk.left_since g.met.D.Disk.counts_now c.args.disk.now c.start.new.disk c.start.ensures.any_moment)

pub returns-in-Err-clause-disk_served : goal.returns-in-Err-clause-disk_served
returns-in-Err-clause-disk_served g c = λ e. inl (refl, kept_file g.D.Disk.content g.D.Disk.images g.D.Disk.moment g.D.Disk.left_since g.met.D.Disk.counts_now c.args.disk.now c.start.new.disk c.start.ensures.any_moment)

pub returns-in-Err-clause-no_journal_untouched : goal.returns-in-Err-clause-no_journal_untouched
returns-in-Err-clause-no_journal_untouched g c = λ e. (refl, kept_file g.D.Disk.content g.D.Disk.images g.D.Disk.moment g.D.Disk.left_since g.met.D.Disk.counts_now c.args.disk.now c.start.new.disk c.start.ensures.any_moment)

pub returns-in-Err-clause-no_journal : goal.returns-in-Err-clause-no_journal
returns-in-Err-clause-no_journal g c = λ e.
    no_journal_of (g.D.Disk.content c.args.disk.now) c.in-Err.fault (sym c.stop_of.ensures ∙ (let same : c.stop_of.result ≡ NoJournal = cc in same))
    (λ place is. if_some (g.D.Disk.content c.args.disk.now) (c.in-Err.ensures.refuses.no_journal place (ap Err is)) (λ bytes ends. ends.0))
    (λ number is. c.in-Err.ensures.refuses.bad_record number (ap Err is))

pub returns-in-Err-clause-journal_taken : goal.returns-in-Err-clause-journal_taken
returns-in-Err-clause-journal_taken g c =
    if_some (g.D.Disk.content c.args.disk.now) c.in-Err.ensures.refuses.accepted
    (λ bytes accepted frames are gives e. never_no_journal c.in-Err.fault
    (λ place is. (accepted frames are gives place).0 (ap Err is))
    (λ number is. (accepted frames are gives number).1 (ap Err is))
    (sym c.stop_of.ensures ∙ (let same : c.stop_of.result ≡ NoJournal = cc in same)))

-- it was started, and connections were served

pub returns-in-Ok-serve-clause-no_journal_refused : goal.returns-in-Ok-serve-clause-no_journal_refused
returns-in-Ok-serve-clause-no_journal_refused g c =
    if_some_both (g.D.Disk.content c.args.disk.now) c.in-Ok-start.ensures.refuses.no_journal_refused c.in-Ok-start.ensures.refuses.bad_record_refused
    (λ bytes p q either. of_either bytes (λ place is. absurd (true≢false (sym (p place is).0))) (λ number is. absurd (true≢false (sym (q number is).0))) either)

pub returns-clause-no_journal_refused : goal.returns-clause-no_journal_refused
returns-clause-no_journal_refused g c =
    if_some_both (g.D.Disk.content c.args.disk.now) c.in-Ok-start.ensures.refuses.no_journal_refused c.in-Ok-start.ensures.refuses.bad_record_refused
    (λ bytes p q either. of_either bytes (λ place is. absurd (true≢false (sym (p place is).0))) (λ number is. absurd (true≢false (sym (q number is).0))) either)

pub returns-clause-journal_taken : goal.returns-clause-journal_taken
returns-clause-journal_taken g c =
    if_some (g.D.Disk.content c.args.disk.now) c.in-Ok-start.ensures.refuses.accepted
    (λ bytes accepted frames are gives e. never_served c.in-Err-serve.fault (sym c.from.ensures ∙ (let same : c.from.result ≡ NoJournal = cc in same)))

pub returns-clause-disk_served : goal.returns-clause-disk_served
returns-clause-disk_served g c = λ e. inr (record {
  server = c.in-Ok-start.server;
  server2 = c.serve.new.server;
  started_disk = c.start.new.disk;
  started = c.in-Ok-start.ensures.started;
  served = c.serve.ensures.served;
})
