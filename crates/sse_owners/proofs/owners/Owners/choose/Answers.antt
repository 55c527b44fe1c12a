use Rattle.std.proofs.Common.{length, ◌<◌, refl, sym, ap, subst, ◌∙◌}
use Rattle.std.specs.Prelude.{Contains}
use Rattle.std.proofs.lemmas.Bool.{true≢false}
use Rattle.sse_owners.specs.OwnersView.{OwnersView}
use Rattle.sse_owners.proofs.owners.Owners.choose.Goals as goal

pub returns-in-Some-clause-known : goal.returns-in-Some-clause-known
returns-in-Some-clause-known g c = subst (λ numbers. Contains numbers c.args.owner) (c.deref.ensures.value ∙ ap (λ (v : OwnersView). v.numbers) c.self.view_is) c.in-Some.ensures.known

pub returns-in-Some-clause-unknown : goal.returns-in-Some-clause-unknown
returns-in-Some-clause-unknown g c = (
  λ is. absurd (true≢false (sym is)),
  λ none. absurd (none (subst (λ numbers. Contains numbers c.args.owner) (c.deref.ensures.value ∙ ap (λ (v : OwnersView). v.numbers) c.self.view_is) c.in-Some.ensures.known)),
)

pub returns-in-None-clause-unknown : goal.returns-in-None-clause-unknown
returns-in-None-clause-unknown g c = (
  λ _ has. c.in-None.ensures.none (subst (λ numbers. Contains numbers c.args.owner) (sym (c.deref.ensures.value ∙ ap (λ (v : OwnersView). v.numbers) c.self.view_is)) has),
  λ _. refl,
)

pub returns-in-Some-clause-within : goal.returns-in-Some-clause-within
returns-in-Some-clause-within g c = subst (λ numbers. c.in-Some.place < length numbers) c.deref.ensures.value c.in-Some.ensures.found.0
