use Rattle.std.proofs.Common.{Some, None, ap, ◌∙◌}
use Rattle.client_registry.specs.IdNumber.{id_number}
use Rattle.client_registry.specs.WordBytes.{word_bytes}
use Rattle.leakage_model.proofs.LeakLaws.{told}
use Rattle.leakage_model.proofs.PairLaws.{lists-listed_leaks}
use Rattle.leakage_model.specs.WordFacts.{lists}
use Rattle.leakage_model.proofs.trail.Trail.is_listed.Goals as goal

pub returns-in-Some : goal.returns-in-Some
returns-in-Some c = λ o s past follows.
    let id = id_number c.args.id in
    let bs = word_bytes c.args.word.now in
    c.is_listed.ensures
    ∙ ap (λ f. lists id f.listed) (told c.args.self.now.words.entries bs (Some c.in-Some.trail.now) c.in-Some.ensures.value ∙ follows.words bs)
    ∙ lists-listed_leaks o s bs past id

pub returns-in-None : goal.returns-in-None
returns-in-None c = λ o s past follows.
    let id = id_number c.args.id in
    let bs = word_bytes c.args.word.now in
    ap (λ f. lists id f.listed) (told c.args.self.now.words.entries bs None c.in-None.ensures.value ∙ follows.words bs) ∙ lists-listed_leaks o s bs past id
