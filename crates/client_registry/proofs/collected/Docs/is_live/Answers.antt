use Rattle.std.proofs.Common.{ap, ◌∙◌}
use Rattle.client_registry.specs.Documents.{is_live}
use Rattle.client_registry.specs.IdNumber.{id_number}
use Rattle.client_registry.specs.WordTable.{table_words}
use Rattle.client_registry.proofs.KeptLaws.{is_some-kept}
use Rattle.client_registry.proofs.collected.Docs.is_live.Goals as goal

pub returns : goal.returns
returns c =
    let id = id_number c.args.id in
    c.contains_key.ensures
    ∙ is_some-kept (table_words c.self.inside.words.entries) id c.self.inside.documents.entries
    ∙ ap (λ docs. is_live docs id) (ap (λ v. v.documents) c.self.view_is)
