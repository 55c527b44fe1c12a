use Rattle.std.proofs.Common.{map, nat_eq, ap, subst, ◌∙◌, arith}
use Rattle.std.specs.List.{IsDistinct}
use Rattle.client_registry.proofs.OrderLaws.{AreApart-from_IsDistinct}
use Rattle.client_registry.specs.HashNumbers.{hash_numbers}
use Rattle.leakage_model.proofs.LeakLaws.{word_facts-setup}
use Rattle.leakage_model.proofs.trail.Trail.begin_at.Goals as goal

pub returns-clause-follows : goal.returns-clause-follows
returns-clause-follows c = λ o first.
    let s = c.args.history.now.setup in
    record {
      words = λ w. c.in_ok-set_up_documents.ensures.told o first w ∙ word_facts-setup o s c.docs-docs.result.now.documents c.size_of_setup-size.result.shape c.docs-docs.ensures c.size_of_setup-size.ensures.shape w;
      registry = c.in_ok-registry.ensures.setup;
      next = omega (arith, first);
      apart = AreApart-from_IsDistinct (map (λ d. d.id) s.documents) (subst (λ docs. IsDistinct nat_eq (map (λ d. d.id) docs)) c.docs-docs.ensures c.place_words.ensures.collected.different);
    }

pub returns-clause-hashed : goal.returns-clause-hashed
returns-clause-hashed c = record {
  words = ap hash_numbers (c.in_ok-set_up_documents.ensures.hasher ∙ c.in_ok-place_words.ensures.hasher ∙ c.with_hasher-words.ensures.hasher) ∙ c.keys.ensures;
  registry = c.in_ok-registry.ensures.keys;
}
