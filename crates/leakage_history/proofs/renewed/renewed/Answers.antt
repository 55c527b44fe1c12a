use Rattle.std.proofs.Common.{◌≡◌, [], ap, subst, ◌∙◌}
use Rattle.std.specs.Option.{option_or}
use Rattle.std.proofs.lemmas.Result.{IfOk-weaker}
use Rattle.client_registry.specs.Epochs.{setup_renewed}
use Rattle.client_registry.specs.declared.size.Size.{Size}
use Rattle.leakage_history.specs.HashedRun.{HashedRun, run_of}
use Rattle.leakage_history.specs.Renewals.{IsIndexSize, index_refusal}
use Rattle.leakage_history.proofs.renewed.renewed.Goals as goal

pub returns-in-Ok-clause-next : goal.returns-in-Ok-clause-next
returns-in-Ok-clause-next c =
    let h = c.args.history.now in
    IfOk-weaker c.sized.result (λ (r : HashedRun × Size). r.0 ≡ record { setup = record { documents = c.in-Ok.docs.documents; shape = h.setup.shape; pad = h.setup.pad }; later = []; keys = h.keys })
    (λ (r : HashedRun × Size). r.0 ≡ record { setup = setup_renewed (run_of h); later = []; keys = h.keys })
    (λ r is. is ∙ (λ i. record { setup = record { documents = c.in-Ok.ensures.documents i; shape = h.setup.shape; pad = h.setup.pad }; later = []; keys = h.keys }))
    c.sized.ensures.next

pub returns-in-Ok-clause-size : goal.returns-in-Ok-clause-size
returns-in-Ok-clause-size c =
    let h = c.args.history.now in
    IfOk-weaker c.sized.result (λ (r : HashedRun × Size). IsIndexSize r.1 (record { documents = c.in-Ok.docs.documents; shape = h.setup.shape; pad = h.setup.pad }))
    (λ (r : HashedRun × Size). IsIndexSize r.1 (setup_renewed (run_of h)))
    (λ r is. subst (λ docs. IsIndexSize r.1 (record { documents = docs; shape = h.setup.shape; pad = h.setup.pad })) c.in-Ok.ensures.documents is)
    c.sized.ensures.size

pub returns-in-Ok-clause-fault : goal.returns-in-Ok-clause-fault
returns-in-Ok-clause-fault c =
    λ other.
    let h = c.args.history.now in
    let s = setup_renewed (run_of h) in
    c.sized.ensures.fault other
    ∙ ap (λ docs. index_refusal c.args.most (record { documents = docs; shape = h.setup.shape; pad = h.setup.pad })) c.in-Ok.ensures.documents
    ∙ ap (λ first. option_or first (index_refusal c.args.most s)) (c.in-Ok.ensures.fault (λ e. absurd (cc)))
