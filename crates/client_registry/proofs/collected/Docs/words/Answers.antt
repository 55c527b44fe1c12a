use Rattle.std.proofs.Common.{ap, ◌∙◌, length, arith}
use Rattle.client_registry.specs.Documents.{words_of}
use Rattle.client_registry.proofs.IndexedLaws.{length-counted_words, words_within}
use Rattle.client_registry.proofs.collected.Docs.words.Goals as goal

pub returns-clause-words : goal.returns-clause-words
returns-clause-words c =
    c.len.ensures.len ∙ length-counted_words c.self.inside c.self.invariant ∙ ap (λ docs. length (words_of docs)) (ap (λ v. v.documents) c.self.view_is)

pub returns-clause-within : goal.returns-clause-within
returns-clause-within c = omega (arith, words_within c.self.inside c.self.invariant)
