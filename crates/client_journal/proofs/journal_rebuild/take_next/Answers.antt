use Rattle.std.proofs.Common.{◌≡◌, ℕ, List, [], ◌∷◌, ◌++◌, length, Err, sym, ap, subst}
use Rattle.std.specs.Prelude.{Option}
use Rattle.sse_journal.specs.JournalView.{IsJournalOf}
use Rattle.sse_journal.specs.Reads.{IsRead}
use Rattle.client_records.specs.Openings.{IsBadRecord}
use Rattle.client_rebuild.specs.Rebuilds.{Rebuilds}
use Rattle.client_journal.specs.Recordings.{TakesNext}
use Rattle.client_journal.proofs.Recorded.{next_refused, next_taken, next_unread}
use Rattle.script_run_texts.specs.declared.journal_stop.JournalStop.{JournalStop}
use Rattle.client_journal.proofs.journal_rebuild.take_next.Goals as goal

pub returns-in-Ok-clause-takes : goal.returns-in-Ok-clause-takes
returns-in-Ok-clause-takes g c = λ payloads was.
    let told = λ (all : List (List ℕ)). IsJournalOf all c.args.journal.now (g.D.Disk.content c.args.disk.now) (g.D.Disk.images c.args.disk.now) in (
      c.read.new.out.items,
      subst (λ (p : List ℕ). Rebuilds (payloads ++ p ∷ []) c.take.new.self) c.deref.ensures.value (c.in-Ok.ensures.taken payloads was),
      next_taken told payloads c.args.at c.in-Ok-Some.next c.read.new.out.items
          (λ all told_all first. subst (λ (o : Option ℕ). IsRead all (length payloads) o c.read.new.out.items) c.in-Ok-Some.field-0-is (c.in-Ok-Some.ensures.payload all (length payloads) told_all first.within first.place)),
    )

pub returns-in-Err-take-clause-takes : goal.returns-in-Err-take-clause-takes
returns-in-Err-take-clause-takes g c = λ payloads was.
    let told = λ (all : List (List ℕ)). IsJournalOf all c.args.journal.now (g.D.Disk.content c.args.disk.now) (g.D.Disk.images c.args.disk.now) in
    let is : c.deref.result.now ≡ c.read.new.out.items = c.deref.ensures.value in
    subst (λ (fault : JournalStop). TakesNext told payloads c.args.at (Err fault) c.take.new.self) (sym c.stop_of_take.ensures.is)
    (next_refused told payloads c.args.at c.in-Ok-Some.next c.read.new.out.items
    (λ all told_all first. subst (λ (o : Option ℕ). IsRead all (length payloads) o c.read.new.out.items) c.in-Ok-Some.field-0-is (c.in-Ok-Some.ensures.payload all (length payloads) told_all first.within first.place))
    c.take.new.self c.in-Err-take.fault
    (λ n e.
    let bad = c.in-Err-take.ensures.bad payloads n was (ap (λ fault. Err fault) e) in
    (bad.0, subst (λ (p : List ℕ). IsBadRecord (payloads ++ p ∷ []) n) is bad.1)))

pub returns-in-Err-clause-takes : goal.returns-in-Err-clause-takes
returns-in-Err-clause-takes g c = λ payloads was.
    let told = λ (all : List (List ℕ)). IsJournalOf all c.args.journal.now (g.D.Disk.content c.args.disk.now) (g.D.Disk.images c.args.disk.now) in
    subst (λ (fault : JournalStop). TakesNext told payloads c.args.at (Err fault) c.args.rebuilt.now) (sym c.stop_of_read.ensures.is)
    (next_unread told payloads c.args.at c.in-Err.fault
    (λ all told_all first e. c.in-Err.ensures.never all (length payloads) told_all first.within first.place (ap (λ fault. Err fault) e))
    (λ place e. c.in-Err.ensures.place place (ap (λ fault. Err fault) e))
    c.args.rebuilt.now)
