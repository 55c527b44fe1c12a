use Rattle.std.proofs.Common.{map, nat_eq, ap, subst, ◌∙◌}
use Rattle.std.specs.List.{IsDistinct}
use Rattle.std.proofs.lemmas.List.{take_all}
use Rattle.client_registry.specs.WordBytes.{word_bytes}
use Rattle.client_registry.specs.WordMark.{word_mark}
use Rattle.client_registry.proofs.MarkLaws.{first_repeat-differ}
use Rattle.client_registry.proofs.word_mark.marks_differ.Goals as goal

pub returns : goal.returns
returns c =
    let words = c.args.words.now in
    let marks = c.deref_mut.ensures.value ∙ c.loop-word.invariant.marks ∙ ap (λ ws. map word_mark (map word_bytes ws)) (take_all c.loop-word.word-index words c.loop-word-test.false) in
    λ yes. first_repeat-differ word_mark (map word_bytes words) (subst (IsDistinct nat_eq) marks (c.differ.ensures yes))
