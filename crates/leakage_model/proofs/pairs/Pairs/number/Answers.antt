use Rattle.std.proofs.Common.{Some, length, nat_eq, sym, ap, ◌∙◌}
use Rattle.std.specs.Prelude.{slice_get}
use Rattle.std.specs.List.{list_any}
use Rattle.std.proofs.lemmas.Option.{slice_get_read, slice_get_within}
use Rattle.client_registry.specs.IdNumber.{id_number}
use Rattle.leakage_model.proofs.BesideLaws.{number-behind, number-beside, rising-differ}
use Rattle.leakage_model.specs.Pairs.{pairs_in}
use Rattle.leakage_model.specs.WordFacts.{number_among}
use Rattle.leakage_model.proofs.pairs.Pairs.number.Goals as goal

pub returns-in-Some : goal.returns-in-Some
returns-in-Some c =
    let w = c.self.inside in
    let id = id_number c.args.id in
    let i = c.in-Some.place in
    let at = ap (λ ids. slice_get ids i) (sym c.deref.ensures.value) ∙ c.in-Some.ensures.found ∙ ap (λ n. Some n) c.get.ensures.number in
    sym (number-beside w.ids.items w.front.items i id c.index.result.now (pairs_in w.rest.entries) (rising-differ w.ids.items c.self.invariant.rising) at
    (slice_get_read w.front.items (length w.ids.items) i c.index.result.now (sym c.self.invariant.beside) (slice_get_within w.ids.items i id at) c.index.ensures))
    ∙ ap (number_among id) c.self.view_is

pub returns-in-None : goal.returns-in-None
returns-in-None c =
    let w = c.self.inside in
    let id = id_number c.args.id in
    c.number_in.ensures
    ∙ sym (number-behind w.ids.items w.front.items (pairs_in w.rest.entries) id c.self.invariant.beside
    ((λ i. list_any (nat_eq (sym c.get.ensures.number i)) (sym c.deref.ensures.value i)) ∙ c.in-None.ensures.absent))
    ∙ ap (number_among id) c.self.view_is
