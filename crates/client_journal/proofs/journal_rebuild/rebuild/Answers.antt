use Rattle.std.proofs.Common.{ℕ, List, refl, sym, subst, ◌∙◌}
use Rattle.sse_journal.specs.JournalView.{IsJournalOf}
use Rattle.client_records.proofs.OpeningLaws.{not_elsewhere}
use Rattle.client_records.specs.Openings.{OpensElsewhere}
use Rattle.client_rebuild.specs.Rebuilds.{IsFinished}
use Rattle.client_rebuild.specs.declared.rebuilt.Rebuilt.{Rebuilt}
use Rattle.client_journal.proofs.Recorded.{all_accepted, all_bad_refused, all_wrong_refused, took_all, took_no_bad}
use Rattle.client_journal.proofs.journal_rebuild.rebuild.Goals as goal

pub returns-in-Ok-finish-clause-rebuilt : goal.returns-in-Ok-finish-clause-rebuilt
returns-in-Ok-finish-clause-rebuilt g c =
    let done = c.in-Ok.ensures.takes in
    record {
      payloads = done.payloads;
      finished = subst (λ (m : List ℕ). IsFinished m done.payloads c.in-Ok-finish.rebuilt) (c.take_all.ensures.mark ∙ c.new-taken.ensures.mark) (c.in-Ok-finish.ensures.finished done.payloads done.taken);
      all = done.all;
    }

pub returns-in-Ok-finish-clause-wrong_refused : goal.returns-in-Ok-finish-clause-wrong_refused
returns-in-Ok-finish-clause-wrong_refused g c = λ payloads is elsewhere.
    let told = λ (all : List (List ℕ)). IsJournalOf all c.args.journal.now (g.D.Disk.content c.args.disk.now) (g.D.Disk.images c.args.disk.now) in
    let err = c.in-Ok-finish.ensures.elsewhere payloads (took_all told payloads is c.take_all.new.rebuilt c.in-Ok.ensures.takes)
    (subst (λ (m : List ℕ). OpensElsewhere m payloads) (sym (c.take_all.ensures.mark ∙ c.new-taken.ensures.mark)) elsewhere) in
    λ disk memory. absurd (cc)

pub returns-in-Ok-finish-clause-bad_refused : goal.returns-in-Ok-finish-clause-bad_refused
returns-in-Ok-finish-clause-bad_refused g c = λ payloads number is bad disk memory.
    let told = λ (all : List (List ℕ)). IsJournalOf all c.args.journal.now (g.D.Disk.content c.args.disk.now) (g.D.Disk.images c.args.disk.now) in
    absurd (took_no_bad told payloads is c.take_all.new.rebuilt c.in-Ok.ensures.takes number bad)

pub returns-in-Err-finish-clause-wrong : goal.returns-in-Err-finish-clause-wrong
returns-in-Err-finish-clause-wrong g c = λ e payloads is.
    let told = λ (all : List (List ℕ)). IsJournalOf all c.args.journal.now (g.D.Disk.content c.args.disk.now) (g.D.Disk.images c.args.disk.now) in
    subst (λ (m : List ℕ). OpensElsewhere m payloads) (c.take_all.ensures.mark ∙ c.new-taken.ensures.mark)
    (c.in-Err-finish.ensures.wrong payloads (took_all told payloads is c.take_all.new.rebuilt c.in-Ok.ensures.takes) refl)

pub returns-in-Err-finish-clause-bad_refused : goal.returns-in-Err-finish-clause-bad_refused
returns-in-Err-finish-clause-bad_refused g c = λ payloads number is bad disk memory.
    let told = λ (all : List (List ℕ)). IsJournalOf all c.args.journal.now (g.D.Disk.content c.args.disk.now) (g.D.Disk.images c.args.disk.now) in
    absurd (took_no_bad told payloads is c.take_all.new.rebuilt c.in-Ok.ensures.takes number bad)

pub returns-in-Err-finish-clause-accepted : goal.returns-in-Err-finish-clause-accepted
returns-in-Err-finish-clause-accepted g c = λ payloads first es is opened own disk memory.
    let told = λ (all : List (List ℕ)). IsJournalOf all c.args.journal.now (g.D.Disk.content c.args.disk.now) (g.D.Disk.images c.args.disk.now) in
    absurd (not_elsewhere first c.take_all.new.rebuilt.mark payloads es opened (own ∙ sym (c.take_all.ensures.mark ∙ c.new-taken.ensures.mark))
    (c.in-Err-finish.ensures.wrong payloads (took_all told payloads is c.take_all.new.rebuilt c.in-Ok.ensures.takes) refl))

pub returns-in-Err-clause-wrong_refused : goal.returns-in-Err-clause-wrong_refused
returns-in-Err-clause-wrong_refused g c = λ payloads is elsewhere.
    all_wrong_refused _ payloads is {T = Rebuilt} _ c.in-Err.fault c.in-Err.ensures.takes elsewhere

pub returns-in-Err-clause-bad_refused : goal.returns-in-Err-clause-bad_refused
returns-in-Err-clause-bad_refused g c = λ payloads number is bad.
    all_bad_refused _ payloads is {T = Rebuilt} c.in-Err.fault c.in-Err.ensures.takes number bad

pub returns-in-Err-clause-accepted : goal.returns-in-Err-clause-accepted
returns-in-Err-clause-accepted g c = λ payloads first es is opened own.
    all_accepted _ payloads is {T = Rebuilt} c.in-Err.fault c.in-Err.ensures.takes first es opened
