use Rattle.std.proofs.Common.{◌≡◌, Err, inl, inr, refl, ap, sym, ◌∙◌}
use Rattle.std.proofs.lemmas.Bool.{true≢false}
use Rattle.keyed_fn.specs.KeyedFn.{keyed_fn}
use Rattle.sse_owners.specs.OwnedRecords.{HasBadOwned}
use Rattle.sse_owners.specs.declared.owners_fault.OwnersFault.TheVariants as faults
use Rattle.service_places.specs.declared.stop.ServiceStop.TheVariants.{NoJournal}
use Rattle.service_places.proofs.KeptFiles.{kept_file}
use Rattle.service_places.proofs.KnownValues.{if_some, if_some_both}
use Rattle.sse_served.proofs.ServedOwners.{served_from}
use Rattle.sse_served.proofs.StopLaws.{never_no_journal, never_not_rising, never_served, no_journal_of, of_either}
use Rattle.sse_served.proofs.owner_service.serve_all_owners.Goals as goal

-- numbers that rise aren't refused

pub unreachable-requires : goal.unreachable-requires
unreachable-requires g c = never_not_rising c.args.numbers.items _ c.requires.rising (c.in-Err-NotRising.ensures.not_rising _ (ap Err c.in-Err-NotRising.field-0-is)).0

-- the servers weren't started: no connection was asked for, and the file has the records that it had

pub returns-in-Err-Open-clause-memory : goal.returns-in-Err-Open-clause-memory
returns-in-Err-Open-clause-memory g c = λ e. (refl, kept_file g.D.Disk.content g.D.Disk.images g.D.Disk.moment g.D.Disk.left_since g.met.D.Disk.counts_now c.args.disk.now c.start.new.disk c.start.ensures.any_moment)

pub returns-in-Err-Open-clause-disk_served : goal.returns-in-Err-Open-clause-disk_served
returns-in-Err-Open-clause-disk_served g c = λ e. inl (refl, kept_file g.D.Disk.content g.D.Disk.images g.D.Disk.moment g.D.Disk.left_since g.met.D.Disk.counts_now c.args.disk.now c.start.new.disk c.start.ensures.any_moment)

pub returns-in-Err-Open-clause-no_journal_untouched : goal.returns-in-Err-Open-clause-no_journal_untouched
returns-in-Err-Open-clause-no_journal_untouched g c = λ e. (refl, kept_file g.D.Disk.content g.D.Disk.images g.D.Disk.moment g.D.Disk.left_since g.met.D.Disk.counts_now c.args.disk.now c.start.new.disk c.start.ensures.any_moment)

pub returns-in-Err-Open-clause-no_journal : goal.returns-in-Err-Open-clause-no_journal
returns-in-Err-Open-clause-no_journal g c = λ e.
    no_journal_of (HasBadOwned c.args.numbers.items) (g.D.Disk.content c.args.disk.now) c.in-Err-Open.fault (sym c.stop_of.ensures ∙ (let same : c.stop_of.result ≡ NoJournal = cc in same))
    (λ place is. if_some (g.D.Disk.content c.args.disk.now) (c.in-Err-Open.ensures.no_journal place (ap Err (c.in-Err-Open.field-0-is ∙ ap faults.Open is))) (λ bytes ends. ends.0))
    (λ number is. c.in-Err-Open.ensures.bad_record number (ap Err (c.in-Err-Open.field-0-is ∙ ap faults.Open is)))

pub returns-in-Err-Open-clause-journal_taken : goal.returns-in-Err-Open-clause-journal_taken
returns-in-Err-Open-clause-journal_taken g c =
    if_some (g.D.Disk.content c.args.disk.now) c.in-Err-Open.ensures.accepted
    (λ bytes accepted journal e. never_no_journal c.in-Err-Open.fault
    (λ place is. (accepted journal.frames journal.are_taken journal.gives place).0 (ap Err (c.in-Err-Open.field-0-is ∙ ap faults.Open is)))
    (λ number is. (accepted journal.frames journal.are_taken journal.gives number).1 (ap Err (c.in-Err-Open.field-0-is ∙ ap faults.Open is)))
    (sym c.stop_of.ensures ∙ (let same : c.stop_of.result ≡ NoJournal = cc in same)))

-- they were started, and connections were served

pub returns-in-Ok-serve_owners-clause-served : goal.returns-in-Ok-serve_owners-clause-served
returns-in-Ok-serve_owners-clause-served g c =
    served_from (keyed_fn g.K.Keyed.prf g.K.Keyed.pad) g.D.Disk.content g.D.Disk.images g.C.In.Source.remaining g.C.Out.Sink.written c.args.numbers.items c.in-Ok-start.owners c.serve_owners.new.owners
    c.args.disk.now c.start.new.disk c.serve_owners.new.disk (g.C.Conns.offered c.args.conns.now) (g.C.Conns.offered c.serve_owners.new.conns) (g.C.Conns.returned c.args.conns.now) (g.C.Conns.returned c.serve_owners.new.conns)
    c.in-Ok-start.ensures.started c.in-Ok-start.ensures.fresh.0 c.serve_owners.ensures.served

pub returns-in-Ok-serve_owners-clause-no_journal_refused : goal.returns-in-Ok-serve_owners-clause-no_journal_refused
returns-in-Ok-serve_owners-clause-no_journal_refused g c =
    if_some_both (g.D.Disk.content c.args.disk.now) c.in-Ok-start.ensures.no_journal_refused c.in-Ok-start.ensures.bad_record_refused
    (λ bytes p q either. of_either (HasBadOwned c.args.numbers.items) bytes (λ place is. absurd (true≢false (sym (p place is).0))) (λ number is. absurd (true≢false (sym (q number is).0))) either)

pub returns-clause-no_journal_refused : goal.returns-clause-no_journal_refused
returns-clause-no_journal_refused g c =
    if_some_both (g.D.Disk.content c.args.disk.now) c.in-Ok-start.ensures.no_journal_refused c.in-Ok-start.ensures.bad_record_refused
    (λ bytes p q either. of_either (HasBadOwned c.args.numbers.items) bytes (λ place is. absurd (true≢false (sym (p place is).0))) (λ number is. absurd (true≢false (sym (q number is).0))) either)

pub returns-clause-journal_taken : goal.returns-clause-journal_taken
returns-clause-journal_taken g c =
    if_some (g.D.Disk.content c.args.disk.now) c.in-Ok-start.ensures.accepted
    (λ bytes accepted journal e. never_served c.in-Err.fault (sym c.from.ensures ∙ (let same : c.from.result ≡ NoJournal = cc in same)))

pub returns-clause-link_served : goal.returns-clause-link_served
returns-clause-link_served g c = λ e.
    served_from (keyed_fn g.K.Keyed.prf g.K.Keyed.pad) g.D.Disk.content g.D.Disk.images g.C.In.Source.remaining g.C.Out.Sink.written c.args.numbers.items c.in-Ok-start.owners c.serve_owners.new.owners
    c.args.disk.now c.start.new.disk c.serve_owners.new.disk (g.C.Conns.offered c.args.conns.now) (g.C.Conns.offered c.serve_owners.new.conns) (g.C.Conns.returned c.args.conns.now) (g.C.Conns.returned c.serve_owners.new.conns)
    c.in-Ok-start.ensures.started c.in-Ok-start.ensures.fresh.0 c.serve_owners.ensures.served

pub returns-clause-disk_served : goal.returns-clause-disk_served
returns-clause-disk_served g c = λ e. inr
    (served_from (keyed_fn g.K.Keyed.prf g.K.Keyed.pad) g.D.Disk.content g.D.Disk.images g.C.In.Source.remaining g.C.Out.Sink.written c.args.numbers.items c.in-Ok-start.owners c.serve_owners.new.owners
    c.args.disk.now c.start.new.disk c.serve_owners.new.disk (g.C.Conns.offered c.args.conns.now) (g.C.Conns.offered c.serve_owners.new.conns) (g.C.Conns.returned c.args.conns.now) (g.C.Conns.returned c.serve_owners.new.conns)
    c.in-Ok-start.ensures.started c.in-Ok-start.ensures.fresh.0 c.serve_owners.ensures.served)
