use Rattle.std.proofs.Common.{sym, ◌∙◌}
use Rattle.client_live_docs.proofs.Renewed.{renewed-are_live}
use Rattle.client_live_docs.specs.AreLive.{AreLive}
use Rattle.client_registry.proofs.LiveOnce.{rising_once}
use Rattle.client_registry.specs.Epochs.{setup_renewed}
use Rattle.client_registry.specs.Registered.{facts}
use Rattle.client_registry.specs.declared.collected.Docs.{Docs}
use Rattle.leakage_history.specs.HashedRun.{run_of}
use Rattle.leakage_history.proofs.LiveFaults.{is_first, is_told, none_first}
use Rattle.leakage_history.proofs.renewed.docs_in.Goals as goal

pub of_docs-requires : goal.of_docs-requires
of_docs-requires c =
    let run = run_of c.args.history.now in
    let docs = (setup_renewed run).documents in
    let are : AreLive (facts c.args.registry.now).live docs = renewed-are_live (facts c.args.registry.now).live run c.requires.history (λ i. (c.requires.told i).live) in
    is_told Docs docs c.in-Err.fault (c.in-Err.ensures.refused docs are) (c.in-Err.ensures.accepted docs are)

pub returns-in-Ok-clause-documents : goal.returns-in-Ok-clause-documents
returns-in-Ok-clause-documents c =
    let run = run_of c.args.history.now in
    let known = (facts c.args.registry.now).live in
    let docs = (setup_renewed run).documents in
    let are : AreLive known docs = renewed-are_live known run c.requires.history (λ i. (c.requires.told i).live) in
    let also : AreLive known c.in-Ok.docs.documents = c.in-Ok.ensures.live in
    rising_once c.in-Ok.docs.documents docs also.rising are.rising (λ id. also.same id ∙ sym (are.same id))

pub returns-in-Ok-clause-fault : goal.returns-in-Ok-clause-fault
returns-in-Ok-clause-fault c =
    λ other.
    let run = run_of c.args.history.now in
    let docs = (setup_renewed run).documents in
    let are : AreLive (facts c.args.registry.now).live docs = renewed-are_live (facts c.args.registry.now).live run c.requires.history (λ i. (c.requires.told i).live) in
    none_first Docs c.in-Ok.docs docs (c.in-Ok.ensures.refused docs are)

pub returns-in-Err-clause-fault : goal.returns-in-Err-clause-fault
returns-in-Err-clause-fault c =
    λ other.
    let run = run_of c.args.history.now in
    let docs = (setup_renewed run).documents in
    let are : AreLive (facts c.args.registry.now).live docs = renewed-are_live (facts c.args.registry.now).live run c.requires.history (λ i. (c.requires.told i).live) in
    is_first Docs docs c.in-Err.fault (c.in-Err.ensures.refused docs are) (c.in-Err.ensures.accepted docs are) Docs c.of_docs.result c.of_docs.ensures other
