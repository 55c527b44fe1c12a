use Rattle.std.proofs.Common.{Some, None, ap, ◌∙◌}
use Rattle.client_registry.specs.IdNumber.{id_number}
use Rattle.client_registry.specs.WordBytes.{word_bytes}
use Rattle.leakage_model.proofs.LeakLaws.{deleted-word_facts, told}
use Rattle.leakage_model.specs.WordFacts.{deleted_leak}
use Rattle.leakage_model.proofs.trail.Trail.word_deleted.Goals as goal

pub returns-in-Some : goal.returns-in-Some
returns-in-Some c = λ o s past follows.
    let id = id_number c.args.id in
    let bs = word_bytes c.args.word.now in
    c.deleted_leak.ensures
    ∙ ap (deleted_leak id) (told c.args.self.now.words.entries bs (Some c.in-Some.trail.now) c.in-Some.ensures.value ∙ follows.words bs)
    ∙ deleted-word_facts o s past bs id

pub returns-in-None : goal.returns-in-None
returns-in-None c = λ o s past follows.
    let id = id_number c.args.id in
    let bs = word_bytes c.args.word.now in
    ap (deleted_leak id) (told c.args.self.now.words.entries bs None c.in-None.ensures.value ∙ follows.words bs) ∙ deleted-word_facts o s past bs id
