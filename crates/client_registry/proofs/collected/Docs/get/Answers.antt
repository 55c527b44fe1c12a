use Rattle.std.proofs.Common.{ap, ◌∙◌, sym, subst}
use Rattle.std.specs.Prelude.{All, ◌<◌, length, option_map, slice_get, Some}
use Rattle.std.specs.Map.Iter.{deref_pair}
use Rattle.client_registry.specs.DocumentRule.{IsDocument}
use Rattle.client_registry.specs.Documents.{words_of}
use Rattle.client_registry.specs.DocsView.{documents_of}
use Rattle.client_registry.specs.IdNumber.{id_number}
use Rattle.client_registry.specs.Numbered.{words_by_number}
use Rattle.client_registry.proofs.IndexedLaws.{document_at, numbers_at, valid_at}
use Rattle.client_registry.proofs.collected.Docs.get.Goals as goal

pub returns-clause-document : goal.returns-clause-document
returns-clause-document c =
    let id = c.unwrap.result.0.now in
    let at = sym c.get_index.ensures.entry ∙ ap (option_map deref_pair) c.unwrap.ensures in
    ap (λ docs. slice_get docs c.args.i) (sym (ap (λ v. v.documents) c.self.view_is))
    ∙ document_at c.self.inside c.self.invariant c.args.i (deref_pair c.unwrap.result) at
    ∙ ap (λ docs. Some (record { id = id_number id; words = words_by_number (words_of docs) c.unwrap.result.1.now.numbers.items })) (ap (λ v. v.documents) c.self.view_is)
    ∙ ap (λ numbers. Some (record { id = id_number id; words = words_by_number (words_of c.args.self.now.documents) numbers })) (sym c.deref.ensures.value)

pub returns-clause-numbered : goal.returns-clause-numbered
returns-clause-numbered c =
    let at = sym c.get_index.ensures.entry ∙ ap (option_map deref_pair) c.unwrap.ensures in
    subst (λ docs. All (λ n. n < length (words_of docs)) c.deref.result.now) (ap (λ v. v.documents) c.self.view_is)
    (subst (All (λ n. n < length (words_of (documents_of c.self.inside)))) (sym c.deref.ensures.value) (numbers_at c.self.inside c.self.invariant c.args.i (deref_pair c.unwrap.result) at))

pub returns-clause-valid : goal.returns-clause-valid
returns-clause-valid c =
    let id = c.unwrap.result.0.now in
    let at = sym c.get_index.ensures.entry ∙ ap (option_map deref_pair) c.unwrap.ensures in
    subst IsDocument
    (ap (λ docs. record { id = id_number id; words = words_by_number (words_of docs) c.unwrap.result.1.now.numbers.items }) (ap (λ v. v.documents) c.self.view_is)
    ∙ ap (λ numbers. record { id = id_number id; words = words_by_number (words_of c.args.self.now.documents) numbers }) (sym c.deref.ensures.value))
    (valid_at c.self.inside c.self.invariant c.args.i (deref_pair c.unwrap.result) at)
