use Rattle.std.proofs.Common.{ap, ◌∙◌, sym, length, arith}
use Rattle.std.specs.Prelude.{slice_get, option_map}
use Rattle.std.specs.Map.Iter.{deref_pair}
use Rattle.client_registry.specs.Documents.{words_of}
use Rattle.client_registry.proofs.IndexedLaws.{length-counted_words, word_at}
use Rattle.client_registry.proofs.collected.Docs.word.Goals as goal

pub unwrap-requires : goal.unwrap-requires
unwrap-requires c =
    c.get_index.ensures.found.1 (omega (arith, c.requires, length-counted_words c.self.inside c.self.invariant, ap (λ docs. length (words_of docs)) (ap (λ v. v.documents) c.self.view_is)))

pub returns : goal.returns
returns c =
    let word = c.unwrap.result.0.now in
    let n = c.unwrap.result.1.now in
    let at = sym c.get_index.ensures.entry ∙ ap (option_map deref_pair) c.unwrap.ensures in
    ap (λ docs. slice_get (words_of docs) c.args.w) (sym (ap (λ v. v.documents) c.self.view_is)) ∙ word_at c.self.inside c.self.invariant c.args.w word n at
