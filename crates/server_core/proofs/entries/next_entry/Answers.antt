use Rattle.std.proofs.Common.{arith}
use Rattle.server_core.proofs.EntryLemmas.{entries_in-few, entries_in-parts}
use Rattle.server_core.proofs.entries.next_entry.Goals as goal

pub returns-in_default-split_at_checked-clause-entries :
    goal.returns-in_default-split_at_checked-clause-entries
returns-in_default-split_at_checked-clause-entries c =
    entries_in-few c.args.width c.args.bytes.now (omega (arith, c.in-Some.ensures.cases, c.in_default-split_at_checked.ensures.cases))

pub returns-clause-entries : goal.returns-clause-entries
returns-clause-entries c =
    let first = c.in-Some.ensures.cases in
    let second = c.in-Some-split_at_checked.ensures.cases in
    entries_in-parts c.args.width c.args.bytes.now _ c.in-Some.behind.now _ _ (omega arith) first.0 first.1 second.0 second.1 second.2
