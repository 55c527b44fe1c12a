use Rattle.std.proofs.Common.{◌<◌, is_some, length, sym, ap, subst, ◌∙◌}
use Rattle.std.specs.Prelude.{All}
use Rattle.client_registry.specs.Numbered.{words_by_number}
use Rattle.client_registry.specs.Registered.{facts, known_words}
use Rattle.client_registry.proofs.RegistryLaws.{none_there}
use Rattle.client_registry.proofs.registry.Registry.add.Goals as goal

pub add_numbered-requires-clause-dead : goal.add_numbered-requires-clause-dead
add_numbered-requires-clause-dead c =
    ap (λ f. f.live c.args.doc.id) c.in_ok-reserve_for.ensures.facts
    ∙ none_there ((facts c.args.self.now).live c.args.doc.id) (ap (λ id. is_some ((facts c.args.self.now).live id)) (sym c.id.ensures) ∙ sym c.is_live.ensures ∙ c.if-is_live.false)

pub add_numbered-requires-clause-numbers : goal.add_numbered-requires-clause-numbers
add_numbered-requires-clause-numbers c = ap (words_by_number (known_words c.reserve_for.new.self)) c.as_slice.ensures.value ∙ c.in_ok-reserve_for.ensures.numbers

pub add_numbered-requires-clause-within : goal.add_numbered-requires-clause-within
add_numbered-requires-clause-within c = subst (All (λ n. n < length (known_words c.reserve_for.new.self))) (sym c.as_slice.ensures.value) c.in_ok-reserve_for.ensures.within

pub returns-clause-history : goal.returns-clause-history
returns-clause-history c = λ s past stands. c.add_numbered.ensures.history s past (c.in_ok-reserve_for.ensures.facts ∙ stands)
