use Rattle.std.proofs.Common.{List, ℕ, length, Err, Some, sym, ap, subst}
use Rattle.std.specs.Prelude.{Option}
use Rattle.script_run_texts.specs.declared.journal_stop.JournalStop.{JournalStop}
use Rattle.sse_journal.specs.JournalView.{IsJournalOf}
use Rattle.sse_journal.specs.Reads.{IsRead}
use Rattle.vault_client.specs.Recoveries.{TakesNext}
use Rattle.vault_client.proofs.RecordsTaken.{next_refused, next_taken}
use Rattle.vault_client.proofs.recovery.take_next.Goals as goal

pub returns-in-Ok-clause-takes : goal.returns-in-Ok-clause-takes
returns-in-Ok-clause-takes g c = λ payloads taken.
    let told = λ (all : List (List ℕ)). IsJournalOf all c.args.journal.now (g.D.Disk.content c.args.disk.now) (g.D.Disk.images c.args.disk.now) in
    next_taken told c.args.rebuilt.mark payloads c.args.at c.in-Ok-Some.next c.deref.result.now
    (λ all told_all first. subst (λ (p : List ℕ). IsRead all (length payloads) (Some c.in-Ok-Some.next) p) (sym c.deref.ensures.value)
    (subst (λ (o : Option ℕ). IsRead all (length payloads) o c.read.new.out.items) c.in-Ok-Some.field-0-is (c.in-Ok-Some.ensures.payload all (length payloads) told_all first.within first.place)))
    c.in-Ok.rebuilt (c.in-Ok.ensures.taken payloads taken)

pub returns-in-Err-take-clause-takes : goal.returns-in-Err-take-clause-takes
returns-in-Err-take-clause-takes g c = λ payloads was.
    let told = λ (all : List (List ℕ)). IsJournalOf all c.args.journal.now (g.D.Disk.content c.args.disk.now) (g.D.Disk.images c.args.disk.now) in
    subst (λ (stop : JournalStop). TakesNext told c.args.rebuilt.mark payloads c.args.at (Err stop)) (sym c.stop_of_take.ensures)
    (next_refused told c.args.rebuilt.mark payloads c.args.at c.in-Ok-Some.next c.deref.result.now
    (λ all told_all first. subst (λ (p : List ℕ). IsRead all (length payloads) (Some c.in-Ok-Some.next) p) (sym c.deref.ensures.value)
    (subst (λ (o : Option ℕ). IsRead all (length payloads) o c.read.new.out.items) c.in-Ok-Some.field-0-is (c.in-Ok-Some.ensures.payload all (length payloads) told_all first.within first.place)))
    c.in-Err-take.fault
    (λ n e. c.in-Err-take.ensures.bad payloads n was (ap (λ fault. Err fault) e))
    (λ e. c.in-Err-take.ensures.wrong payloads was (ap (λ fault. Err fault) e)))
