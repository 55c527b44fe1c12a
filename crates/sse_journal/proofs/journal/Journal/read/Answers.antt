use Rattle.std.proofs.Common.{◌≡◌, ◌+◌, ◌-◌, ◌∙◌, ℕ, List, [], length, get_or, drop, ap, arith}
use Rattle.std.specs.Prelude.{Err}
use Rattle.sse_journal.specs.Reads.{Begins}
use Rattle.sse_journal.specs.declared.read_fault.ReadFault.TheVariants.{NotAJournal}
use Rattle.sse_journal.proofs.RecordAt.{before_last, at_last, size_here, begins_here, begins_once, next_is}
use Rattle.sse_journal.proofs.StartSteps.{told_of}
use Rattle.sse_journal.specs.Files.{file}
use Rattle.sse_journal.proofs.journal.Journal.read.Goals as goal

pub returns-then-at-self-clause-payload : goal.returns-then-at-self-clause-payload
returns-then-at-self-clause-payload g c ps k is le at_is = at_last ps is.payloads_are k c.args.at c.args.self.now.end le at_is is.end_is c.if-at-self.true

pub returns-in-Ok-clause-payload : goal.returns-in-Ok-clause-payload
returns-in-Ok-clause-payload g c ps k is le at_is =
    let lt = before_last ps k c.args.at c.args.self.now.end le at_is is.end_is (omega (arith, c.if-at-self.false)) in
    let size = size_here ps c.args.at c.args.self.now.end is.end_is (omega (arith, c.if-at-self.false)) in
    let has = told_of (g.D.Disk.content c.args.disk.now) (file ps) (λ bytes. length (drop c.args.at bytes) ≡ c.args.self.now.end - c.args.at + 1 → Begins c.read_record.new.out.items (drop c.args.at bytes) × (c.in-Ok.next ≡ c.args.at + (5 + length c.read_record.new.out.items))) is.settled.reads c.in-Ok.ensures.payload size in
    let same = begins_once c.read_record.new.out.items (get_or ps k []) (drop c.args.at (file ps)) has.0 (begins_here ps is.payloads_are k lt c.args.at at_is) in
    (lt, same, has.1 ∙ ap (λ (p : List ℕ). c.args.at + (5 + length p)) same ∙ next_is ps is.payloads_are k lt c.args.at at_is)

pub returns-in-Err-clause-never : goal.returns-in-Err-clause-never
returns-in-Err-clause-never g c ps k is le at_is same =
    let fault_is : c.in-Err.fault ≡ NotAJournal c.args.at = cc in
    let lt = before_last ps k c.args.at c.args.self.now.end le at_is is.end_is (omega (arith, c.if-at-self.false)) in
    let size = size_here ps c.args.at c.args.self.now.end is.end_is (omega (arith, c.if-at-self.false)) in
    told_of (g.D.Disk.content c.args.disk.now) (file ps) (λ bytes. length (drop c.args.at bytes) ≡ c.args.self.now.end - c.args.at + 1 → (payload : List ℕ) → Begins payload (drop c.args.at bytes) → ⊥) is.settled.reads (c.in-Err.ensures.bad c.args.at (ap Err fault_is)) size (get_or ps k []) (begins_here ps is.payloads_are k lt c.args.at at_is)
