use Rattle.std.proofs.Common.{ap, ◌∙◌, sym, length, arith}
use Rattle.std.specs.Prelude.{slice_get, option_map}
use Rattle.std.specs.Map.Iter.{deref_pair}
use Rattle.client_registry.specs.Documents.{words_of, list_lengths}
use Rattle.client_registry.specs.WordBytes.{word_bytes}
use Rattle.client_registry.proofs.IndexedLaws.{length-counted_words, list_length_at, count_some, count_within}
use Rattle.client_registry.proofs.collected.Docs.list_len.Goals as goal

pub unwrap-requires : goal.unwrap-requires
unwrap-requires c =
    c.get_index.ensures.found.1 (omega (arith, c.requires, length-counted_words c.self.inside c.self.invariant, ap (λ docs. length (words_of docs)) (ap (λ v. v.documents) c.self.view_is)))

pub returns-clause-length : goal.returns-clause-length
returns-clause-length c =
    let word = c.unwrap.result.0.now in
    let n = c.unwrap.result.1.now in
    let at = sym c.get_index.ensures.entry ∙ ap (option_map deref_pair) c.unwrap.ensures in
    let found = rw c.unwrap.ensures at c.get_index.ensures.value in
    ap (λ docs. slice_get (list_lengths docs) c.args.w) (sym (ap (λ v. v.documents) c.self.view_is)) ∙ list_length_at c.self.inside c.self.invariant c.args.w word n at found

pub returns-clause-some : goal.returns-clause-some
returns-clause-some c =
    let found = rw c.unwrap.ensures at c.get_index.ensures.value in
    count_some c.self.inside c.self.invariant (word_bytes c.unwrap.result.0.now) c.unwrap.result.1.now found

pub returns-clause-within : goal.returns-clause-within
returns-clause-within c =
    let found = rw c.unwrap.ensures at c.get_index.ensures.value in
    omega (arith, count_within c.self.inside c.self.invariant (word_bytes c.unwrap.result.0.now) c.unwrap.result.1.now found, ap length (ap (λ v. v.documents) c.self.view_is))
