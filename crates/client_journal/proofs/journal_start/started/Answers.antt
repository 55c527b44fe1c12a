use Rattle.std.proofs.Common.{Err, refl, sym, ap}
use Rattle.std.proofs.lemmas.Bool.{true≢false}
use Rattle.client_journal.specs.Faults.{stop_of_start}
use Rattle.client_journal.proofs.Opened.{ends_no_journal, goes_but_for, if_some, same_stop}
use Rattle.script_run_texts.specs.declared.journal_stop.JournalStop.TheVariants.{NoJournal}
use Rattle.client_journal.proofs.journal_start.started.Goals as goal

pub returns-in-Ok-clause-no_journal_refused : goal.returns-in-Ok-clause-no_journal_refused
returns-in-Ok-clause-no_journal_refused g c =
    if_some (g.D.Disk.content c.args.disk.now) c.in-Ok.ensures.refused (λ bytes refused none disk memory. absurd (true≢false (sym (refused none.0 none.1).0)))

pub returns-in-Err-clause-no_journal : goal.returns-in-Err-clause-no_journal
returns-in-Err-clause-no_journal g c = λ e.
    let at = ends_no_journal c.in-Err.fault (same_stop _ c.stop_of_start.result NoJournal (stop_of_start c.in-Err.fault) refl c.stop_of_start.ensures.is e) in
    if_some (g.D.Disk.content c.args.disk.now) (c.in-Err.ensures.no_journal at.0 (ap (λ fault. Err fault) at.1)) (λ bytes both. ((at.0, both.0), both.1))

pub returns-in-Err-clause-accepted : goal.returns-in-Err-clause-accepted
returns-in-Err-clause-accepted g c =
    if_some (g.D.Disk.content c.args.disk.now) c.in-Err.ensures.accepted
    (λ bytes accepted payloads gives. goes_but_for _ c.stop_of_start.result c.in-Err.fault refl c.stop_of_start.ensures.is (λ place is. accepted payloads gives place (ap (λ fault. Err fault) is)))
