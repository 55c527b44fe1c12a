use Rattle.std.proofs.Common.{ap, ◌∙◌}
use Rattle.client_registry.specs.Acceptance.{size_refusal}
use Rattle.leakage_history.proofs.LiveFaults.{by_parts}
use Rattle.leakage_history.proofs.Refusals.{IsHistory-accepted}
use Rattle.leakage_history.specs.HashedRun.{HashedRun, run_of}
use Rattle.leakage_history.proofs.renewed.begun.Goals as goal

pub returns-clause-kept : goal.returns-clause-kept
returns-clause-kept c =
    let is = by_parts c.args.docs.documents c.args.history.now.setup c.b-b.result c.big-big.result c.pad-pad.result c.b-b.ensures c.big-big.ensures c.pad-pad.ensures in
    IsHistory-accepted (run_of c.in_ok-next.next) c.len-commands.ensures.valid (ap (λ (h : HashedRun). size_refusal h.setup) c.in_ok-next.ensures ∙ ap size_refusal is ∙ c.requires)
