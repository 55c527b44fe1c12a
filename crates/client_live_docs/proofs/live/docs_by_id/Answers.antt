use Rattle.std.proofs.Common.{◌≡◌, ℕ, [], List, Option, None, sym, ap, subst, ◌∙◌}
use Rattle.client_registry.specs.Document.{Document}
use Rattle.client_registry.specs.Documents.{IsCollected}
use Rattle.client_registry.specs.Epochs.{by_id}
use Rattle.client_registry.specs.Facts.{Facts, words_with_id}
use Rattle.client_registry.specs.Registered.{Registered, Represents, facts}
use Rattle.client_registry.specs.Setup.{setup_of}
use Rattle.client_registry.specs.declared.faults.DocsFault.{DocsFault}
use Rattle.client_registry.specs.declared.faults.DocsFault.TheVariants.{AlreadyLive, NoMemory, TooManyDocuments, TooManyPairs}
use Rattle.client_live_docs.proofs.Copying.{are_live-by_id, not_refused-by_id}
use Rattle.client_live_docs.specs.AreLive.{AreLive}
use Rattle.client_live_docs.specs.LiveAfter.{live_refusal}
use Rattle.client_live_docs.proofs.live.docs_by_id.Goals as goal

-- what is live in the registry of these documents are they, and they aren't refused
not_refused : (r : Registered) (docs : List Document) (fault : DocsFault) → IsCollected docs → Represents r (setup_of docs 1 1) []
    → ((sorted : List Document) → AreLive (facts r).live sorted → live_refusal sorted ≡ None → fault ≡ NoMemory) → fault ≡ NoMemory
not_refused r docs fault collected is refused =
    refused (by_id docs) (subst (λ (f : Facts). AreLive f.live (by_id docs)) (sym is) (are_live-by_id docs collected)) (not_refused-by_id docs collected)

pub returns-in-Ok-clause-live : goal.returns-in-Ok-clause-live
returns-in-Ok-clause-live c =
    subst (λ (known : ℕ → Option (List (List ℕ))). AreLive known c.in-Ok.sorted.documents)
    (ap (λ (f : Facts). f.live) (c.from_docs-registry.ensures.setup (record { b = 1; big = 1 }) 1) ∙ ap words_with_id c.in_ok-copy_docs.ensures.documents)
    c.in-Ok.ensures.live

pub unreachable-requires : goal.unreachable-requires
unreachable-requires c =
    differs
    (sym c.in-Err-AlreadyLive.field-0-is
    ∙ not_refused c.from_docs-registry.result c.in_ok-copy_docs.field-0.documents c.in-Err-AlreadyLive.field-0 c.from_docs-registry.ensures.valid
    (c.from_docs-registry.ensures.setup (record { b = 1; big = 1 }) 1) c.in-Err-AlreadyLive.ensures.accepted)
  where
    differs : AlreadyLive c.in-Err-AlreadyLive.field-0-0 ≡ NoMemory → ⊥
    differs e = cc

pub unreachable-requires-in-Err-TooManyDocuments : goal.unreachable-requires-in-Err-TooManyDocuments
unreachable-requires-in-Err-TooManyDocuments c =
    differs
    (sym c.in-Err-TooManyDocuments.field-0-is
    ∙ not_refused c.from_docs-registry.result c.in_ok-copy_docs.field-0.documents c.in-Err-TooManyDocuments.field-0 c.from_docs-registry.ensures.valid
    (c.from_docs-registry.ensures.setup (record { b = 1; big = 1 }) 1) c.in-Err-TooManyDocuments.ensures.accepted)
  where
    differs : TooManyDocuments c.in-Err-TooManyDocuments.field-0-0 ≡ NoMemory → ⊥
    differs e = cc

pub unreachable-requires-in-Err-TooManyPairs : goal.unreachable-requires-in-Err-TooManyPairs
unreachable-requires-in-Err-TooManyPairs c =
    differs
    (sym c.in-Err-TooManyPairs.field-0-is
    ∙ not_refused c.from_docs-registry.result c.in_ok-copy_docs.field-0.documents c.in-Err-TooManyPairs.field-0 c.from_docs-registry.ensures.valid
    (c.from_docs-registry.ensures.setup (record { b = 1; big = 1 }) 1) c.in-Err-TooManyPairs.ensures.accepted)
  where
    differs : TooManyPairs c.in-Err-TooManyPairs.field-0-0 ≡ NoMemory → ⊥
    differs e = cc
