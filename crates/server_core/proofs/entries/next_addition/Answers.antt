use Rattle.std.proofs.Common.{arith}
use Rattle.server_core.proofs.EntryLemmas.{entries_in-parts}
use Rattle.server_core.proofs.entries.next_addition.Goals as goal

pub returns-clause-entries : goal.returns-clause-entries
returns-clause-entries c =
    let first = c.in-Some.ensures.cases in
    let second = c.in-Some-split_first_chunk.ensures.cases in
    entries_in-parts 8 c.args.bytes.now _ c.in-Some.behind.now _ _ (omega arith) first.0 first.1 (omega arith) second.0 second.1
