use Rattle.std.proofs.Common.{◌≡◌, inl, inr, sym, subst, rules, arith}
use Rattle.std.specs.Prelude.{Result}
use Rattle.sse_journal.specs.declared.journal.Journal.{Journal}
use Rattle.client_journal.specs.Faults.{GoesOn}
use Rattle.client_journal.proofs.Opened.{if_some, if_some_both, no_none_from, no_some_from, on_err, records_from, same_records}
use Rattle.script_run_texts.specs.declared.journal_stop.JournalStop.{JournalStop}
use Rattle.client_journal.proofs.journal_start.reopen.Goals as goal

pub returns-in_err-journal-clause-accepted : goal.returns-in_err-journal-clause-accepted
returns-in_err-journal-clause-accepted g c =
    let same : c.from_residual.result ≡ c.started.result = search rules in
    if_some (g.D.Disk.content c.args.disk.now) c.started.ensures.accepted (λ bytes accepted given. subst (λ (r : Result Journal JournalStop). GoesOn r) (sym same) (accepted given.payloads given.gives))

pub returns-in_err-require_records-clause-accepted : goal.returns-in_err-require_records-clause-accepted
returns-in_err-require_records-clause-accepted g c =
    if_some (g.D.Disk.content c.args.disk.now) c.in_ok-journal.ensures.started
    (λ bytes from given. absurd (no_some_from bytes c.in_ok-journal.journal _ _ from c.in_err-require_records.ensures.none given))

pub returns-clause-same_records : goal.returns-clause-same_records
returns-clause-same_records g c =
    same_records (g.D.Disk.content c.args.disk.now) (g.D.Disk.content c.started.new.disk) c.started.ensures.told
    (if_some (g.D.Disk.content c.args.disk.now) c.in_ok-journal.ensures.started (λ bytes from. records_from bytes c.in_ok-journal.journal _ _ from))

pub returns-clause-no_journal_refused : goal.returns-clause-no_journal_refused
returns-clause-no_journal_refused g c =
    if_some_both (g.D.Disk.content c.args.disk.now) c.in_ok-journal.ensures.started c.in_ok-journal.ensures.no_journal_refused
    (λ bytes from refused given. elim given [
      | inl none ↦ absurd (no_none_from bytes c.in_ok-journal.journal _ _ from (λ e. absurd (omega (arith, e, c.in_ok-require_records.ensures.some))) none)
      | inr none ↦ refused none
    ])

pub returns-in_err-require_records-clause-same_refused : goal.returns-in_err-require_records-clause-same_refused
returns-in_err-require_records-clause-same_refused g c = on_err c.from_residual-in_err-require_records.result (λ disk memory.
    same_records (g.D.Disk.content c.args.disk.now) (g.D.Disk.content c.started.new.disk) c.started.ensures.told
    (if_some (g.D.Disk.content c.args.disk.now) c.in_ok-journal.ensures.started (λ bytes from. records_from bytes c.in_ok-journal.journal _ _ from)))
