use Rattle.std.proofs.Common.{◌≡◌, [], sym, subst, rules, arith}
use Rattle.std.specs.Prelude.{Result}
use Rattle.sse_journal.proofs.FileRecords.{gives_records}
use Rattle.sse_journal.specs.declared.journal.Journal.{Journal}
use Rattle.script_run_texts.specs.declared.journal_stop.JournalStop.{JournalStop}
use Rattle.script_run_texts.specs.declared.journal_stop.JournalStop.TheVariants.{HasRecords}
use Rattle.client_journal.specs.Faults.{EndsFor, GoesOn}
use Rattle.client_journal.proofs.Opened.{begun_from, ends_but_for, if_some, no_none_from, no_some_from, on_err, records_from, same_records}
use Rattle.client_journal.proofs.journal_start.begin.Goals as goal

pub returns-in_err-journal-clause-has_records_refused : goal.returns-in_err-journal-clause-has_records_refused
returns-in_err-journal-clause-has_records_refused g c =
    let same : c.from_residual.result ≡ c.started.result = search rules in
    if_some (g.D.Disk.content c.args.disk.now) c.started.ensures.accepted
    (λ bytes accepted given. subst (λ (r : Result Journal JournalStop). EndsFor HasRecords r) (sym same) (ends_but_for c.started.result c.in_err-journal.field-0.0 HasRecords c.in_err-journal.was (accepted given.payloads given.gives)))

pub returns-in_err-journal-clause-accepted : goal.returns-in_err-journal-clause-accepted
returns-in_err-journal-clause-accepted g c =
    let same : c.from_residual.result ≡ c.started.result = search rules in
    if_some (g.D.Disk.content c.args.disk.now) c.started.ensures.accepted (λ bytes accepted given. subst (λ (r : Result Journal JournalStop). GoesOn r) (sym same) (accepted [] given))

pub returns-in_err-refuse_records-clause-accepted : goal.returns-in_err-refuse_records-clause-accepted
returns-in_err-refuse_records-clause-accepted g c =
    if_some (g.D.Disk.content c.args.disk.now) c.in_ok-journal.ensures.started
    (λ bytes from given. absurd (no_none_from bytes c.in_ok-journal.journal _ _ from (λ none. absurd (omega (arith, none, c.in_err-refuse_records.ensures.some))) given))

pub returns-clause-no_records : goal.returns-clause-no_records
returns-clause-no_records g c =
    if_some (g.D.Disk.content c.args.disk.now) c.in_ok-journal.ensures.started
    (λ bytes from. gives_records [] bytes (begun_from bytes c.in_ok-journal.journal _ _ from c.in_ok-refuse_records.ensures.none).gives)

pub returns-clause-same_records : goal.returns-clause-same_records
returns-clause-same_records g c =
    same_records (g.D.Disk.content c.args.disk.now) (g.D.Disk.content c.started.new.disk) c.started.ensures.told
    (if_some (g.D.Disk.content c.args.disk.now) c.in_ok-journal.ensures.started (λ bytes from. records_from bytes c.in_ok-journal.journal _ _ from))

pub returns-clause-has_records_refused : goal.returns-clause-has_records_refused
returns-clause-has_records_refused g c =
    if_some (g.D.Disk.content c.args.disk.now) c.in_ok-journal.ensures.started
    (λ bytes from given. absurd (no_some_from bytes c.in_ok-journal.journal _ _ from c.in_ok-refuse_records.ensures.none given))

pub returns-in_err-refuse_records-clause-same_refused : goal.returns-in_err-refuse_records-clause-same_refused
returns-in_err-refuse_records-clause-same_refused g c = on_err c.from_residual-in_err-refuse_records.result (λ disk memory.
    same_records (g.D.Disk.content c.args.disk.now) (g.D.Disk.content c.started.new.disk) c.started.ensures.told
    (if_some (g.D.Disk.content c.args.disk.now) c.in_ok-journal.ensures.started (λ bytes from. records_from bytes c.in_ok-journal.journal _ _ from)))
