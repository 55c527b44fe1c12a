use Rattle.std.proofs.Common.{◌≡◌, Option, None, Some, Result, Err, refl, sym, ap, subst, ◌∙◌}
use Rattle.std.specs.Prelude.{IfSome}
use Rattle.client_registry.proofs.OrderLaws.{AreApart-from_IsDistinct}
use Rattle.client_registry.specs.Registered.{facts}
use Rattle.client_live_docs.proofs.KeptIds.{kept_ids}
use Rattle.client_live_docs.proofs.LiveIds.{documents_after-are_live, documents_after-once}
use Rattle.client_live_docs.specs.AreLive.{AreLive}
use Rattle.client_live_docs.specs.LiveAfter.{live_after, live_refusal, command_in}
use Rattle.client_live_docs.proofs.live.live_docs.Goals as goal

-- a result for a refusal that stands, and for none
refused_so : {A E : Type 0} (refusal : Option E) (fault : E) (result : Result A E) → refusal ≡ Some fault → result ≡ Err fault → IfSome refusal (λ f. result ≡ Err f)
refused_so refusal fault result is so = subst (λ o. IfSome o (λ f. result ≡ Err f)) (sym is) so

not_refused : {A E : Type 0} (refusal : Option E) (result : Result A E) → refusal ≡ None → IfSome refusal (λ f. result ≡ Err f)
not_refused refusal result is = subst (λ o. IfSome o (λ f. result ≡ Err f)) (sym is) tt

some_differs : {A : Type 0} (x : A) → Some x ≡ None → ⊥
some_differs x e = cc

pub returns-in-Some-clause-refused : goal.returns-in-Some-clause-refused
returns-in-Some-clause-refused c = λ docs are.
    let apart = AreApart-from_IsDistinct (kept_ids c.args.registry.now) c.refusal.ensures.different in
    let once = documents_after-once c.args.registry.now apart (command_in c.args.pending) docs are in
    refused_so (live_refusal docs) c.in-Some.fault _ (ap live_refusal once ∙ sym c.refusal.ensures.fault ∙ c.in-Some.is) refl

pub returns-in-Some-clause-accepted : goal.returns-in-Some-clause-accepted
returns-in-Some-clause-accepted c = λ docs are accepted.
    let apart = AreApart-from_IsDistinct (kept_ids c.args.registry.now) c.refusal.ensures.different in
    let once = documents_after-once c.args.registry.now apart (command_in c.args.pending) docs are in
    absurd (some_differs c.in-Some.fault (sym c.in-Some.is ∙ c.refusal.ensures.fault ∙ sym (ap live_refusal once) ∙ accepted))

pub returns-in_err-collect-clause-refused : goal.returns-in_err-collect-clause-refused
returns-in_err-collect-clause-refused c = λ docs are.
    let apart = AreApart-from_IsDistinct (kept_ids c.args.registry.now) c.refusal.ensures.different in
    let once = documents_after-once c.args.registry.now apart (command_in c.args.pending) docs are in
    not_refused (live_refusal docs) c.from_residual.result (ap live_refusal once ∙ sym c.refusal.ensures.fault ∙ c.in_default.is)

pub returns-clause-live : goal.returns-clause-live
returns-clause-live c =
    subst (AreLive (live_after (facts c.args.registry.now) (command_in c.args.pending))) (sym c.in_ok-collect.ensures.documents)
    (documents_after-are_live c.args.registry.now (AreApart-from_IsDistinct (kept_ids c.args.registry.now) c.refusal.ensures.different) (command_in c.args.pending))

pub returns-clause-refused : goal.returns-clause-refused
returns-clause-refused c = λ docs are.
    let apart = AreApart-from_IsDistinct (kept_ids c.args.registry.now) c.refusal.ensures.different in
    let once = documents_after-once c.args.registry.now apart (command_in c.args.pending) docs are in
    not_refused (live_refusal docs) _ (ap live_refusal once ∙ sym c.refusal.ensures.fault ∙ c.in_default.is)
