use Rattle.std.proofs.Common.{map, None}
use Rattle.client_live_docs.proofs.LiveIds.{documents_after-are_live}
use Rattle.client_live_docs.specs.LiveAfter.{documents_after}
use Rattle.client_registry.proofs.OrderLaws.{AreApart-from_IsDistinct}
use Rattle.client_registry.specs.declared.collected.Docs.{Docs}
use Rattle.client_renewal.proofs.LiveFaults.{is_told}
use Rattle.client_renewal.proofs.live_again.docs_again.Goals as goal

pub of_docs-requires : goal.of_docs-requires
of_docs-requires c =
    let r = c.args.registry.now in
    let are = documents_after-are_live r (AreApart-from_IsDistinct (map (λ k. k.id) r.kept) c.entries_differ.ensures) None in
    is_told Docs (documents_after r None) c.in-Err.fault (c.in-Err.ensures.refused (documents_after r None) are) (c.in-Err.ensures.accepted (documents_after r None) are)
