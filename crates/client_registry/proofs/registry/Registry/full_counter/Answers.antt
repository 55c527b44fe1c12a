use Rattle.std.proofs.Common.{not, length, position, sym, ap, ◌∙◌, arith}
use Rattle.std.proofs.lemmas.List.{length-map}
use Rattle.client_registry.specs.Facts.{has_counter}
use Rattle.client_registry.specs.Registered.{facts}
use Rattle.client_registry.specs.WordBytes.{word_bytes}
use Rattle.client_registry.proofs.Positions.{all_pass, position-map}
use Rattle.client_registry.proofs.registry.Registry.full_counter.Goals as goal

pub overflow_cast-result : goal.overflow_cast-result
overflow_cast-result c = omega (arith, c.in-Some.ensures.within, c.words.ensures.few, length-map c.words.result.now word_bytes, ap length c.words.ensures.words)

pub returns-in-Some-clause-position : goal.returns-in-Some-clause-position
returns-in-Some-clause-position c =
    let f = facts c.args.self.now in
    c.in-Some.ensures.first
    ∙ (λ i. position (λ word. not (has_counter f (c.id.ensures i) (word_bytes word))) c.words.result.now)
    ∙ sym (position-map (λ word. not (has_counter f c.args.doc.now.id word)) word_bytes c.words.result.now)
    ∙ ap (position (λ word. not (has_counter f c.args.doc.now.id word))) c.words.ensures.words

pub returns-in-None-clause-position : goal.returns-in-None-clause-position
returns-in-None-clause-position c =
    let f = facts c.args.self.now in
    c.in-None.ensures.first
    ∙ (λ i. position (λ word. not (has_counter f (c.id.ensures i) (word_bytes word))) c.words.result.now)
    ∙ sym (position-map (λ word. not (has_counter f c.args.doc.now.id word)) word_bytes c.words.result.now)
    ∙ ap (position (λ word. not (has_counter f c.args.doc.now.id word))) c.words.ensures.words

pub returns-in-None-clause-free : goal.returns-in-None-clause-free
returns-in-None-clause-free c =
    λ none. all_pass (has_counter (facts c.args.self.now) c.args.doc.now.id) c.args.doc.now.words (sym (returns-in-None-clause-position c))
