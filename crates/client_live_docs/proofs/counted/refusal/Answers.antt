use Rattle.std.proofs.Common.{Option, arith}
use Rattle.client_registry.proofs.LiveListed.{documents_live}
use Rattle.client_registry.specs.Command.{Command}
use Rattle.client_registry.specs.Registered.{Registered, facts}
use Rattle.client_live_docs.proofs.Counting.{Counts-in_order, refusal-documents, refusal-none, refusal-pairs}
use Rattle.client_live_docs.specs.Counts.{Counts}
use Rattle.client_live_docs.specs.LiveAfter.{documents_after, live_after, live_ids, command_in}
use Rattle.client_live_docs.specs.declared.counted.Counted.{Counted}
use Rattle.client_live_docs.proofs.counted.refusal.Goals as goal

sorted : (r : Registered) (command : Option Command) (counted : Counted) → Counts counted (documents_live (live_after (facts r) command) (live_ids r command))
    → Counts counted (documents_after r command)
sorted r command counted = Counts-in_order (live_after (facts r) command) counted (live_ids r command)

pub returns-then-counted-gt-MAX_DOCUMENTS-clause-fault : goal.returns-then-counted-gt-MAX_DOCUMENTS-clause-fault
returns-then-counted-gt-MAX_DOCUMENTS-clause-fault c =
    let counts = sorted c.args.registry.now (command_in c.args.pending) c.count_live-counted.result c.count_live-counted.ensures.counts in
    refusal-documents c.count_live-counted.result _ counts (omega (arith, c.if-counted-gt-MAX_DOCUMENTS.true))

pub returns-then-counted-gt-MAX_PAIRS-clause-fault : goal.returns-then-counted-gt-MAX_PAIRS-clause-fault
returns-then-counted-gt-MAX_PAIRS-clause-fault c =
    let counts = sorted c.args.registry.now (command_in c.args.pending) c.count_live-counted.result c.count_live-counted.ensures.counts in
    refusal-pairs c.count_live-counted.result _ counts (omega (arith, c.if-counted-gt-MAX_DOCUMENTS.false)) (omega (arith, c.if-counted-gt-MAX_PAIRS.true))

pub returns-clause-fault : goal.returns-clause-fault
returns-clause-fault c =
    let counts = sorted c.args.registry.now (command_in c.args.pending) c.count_live-counted.result c.count_live-counted.ensures.counts in
    refusal-none c.count_live-counted.result _ counts (omega (arith, c.if-counted-gt-MAX_DOCUMENTS.false)) (omega (arith, c.if-counted-gt-MAX_PAIRS.false))
