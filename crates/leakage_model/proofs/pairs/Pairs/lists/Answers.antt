use Rattle.std.proofs.Common.{Some, nat_eq, sym, ap, ◌∙◌}
use Rattle.std.specs.Prelude.{slice_get}
use Rattle.std.specs.List.{list_any}
use Rattle.client_registry.specs.IdNumber.{id_number}
use Rattle.leakage_model.proofs.BesideLaws.{lists-at, lists-behind}
use Rattle.leakage_model.proofs.PairEntries.{lists-lookup}
use Rattle.leakage_model.specs.Pairs.{pairs_in}
use Rattle.leakage_model.specs.WordFacts.{lists}
use Rattle.leakage_model.proofs.pairs.Pairs.lists.Goals as goal

pub returns-in-Some : goal.returns-in-Some
returns-in-Some c =
    let w = c.self.inside in
    let id = id_number c.args.id in
    sym (lists-at w.ids.items w.front.items (pairs_in w.rest.entries) id c.in-Some.field-0 c.self.invariant.beside
    (ap (λ ids. slice_get ids c.in-Some.field-0) (sym c.deref.ensures.value) ∙ c.in-Some.ensures.found ∙ ap (λ n. Some n) c.get.ensures.number))
    ∙ ap (lists id) c.self.view_is

pub returns-in-None : goal.returns-in-None
returns-in-None c =
    let w = c.self.inside in
    let id = id_number c.args.id in
    c.contains_key.ensures
    ∙ sym (lists-lookup id w.rest.entries)
    ∙ sym (lists-behind w.ids.items w.front.items (pairs_in w.rest.entries) id c.self.invariant.beside
    ((λ i. list_any (nat_eq (sym c.get.ensures.number i)) (sym c.deref.ensures.value i)) ∙ c.in-None.ensures.absent))
    ∙ ap (lists id) c.self.view_is
