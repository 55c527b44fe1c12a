use Rattle.std.proofs.Common.{◌<◌, sym, ap, subst, ◌∙◌}
use Rattle.std.specs.Prelude.{is_ok}
use Rattle.std.proofs.lemmas.List.Sorted.{searched}
use Rattle.client_registry.proofs.MemberLaws.{found_among}
use Rattle.leakage_model.proofs.BesideLaws.{none-above, rising_order}
use Rattle.leakage_model.proofs.pairs.place_among.Goals as goal

pub returns-in-Err-clause-absent : goal.returns-in-Err-clause-absent
returns-in-Err-clause-absent c =
    let ids = c.args.ids.now in
    let r = c.binary_search.result in
    sym (found_among ids c.args.id r (searched ids c.args.id r c.binary_search.ensures.position (rising_order ids c.requires.rising))) ∙ ap is_ok c.in-Err.is

pub returns-then-last-id-clause-absent : goal.returns-then-last-id-clause-absent
returns-then-last-id-clause-absent c = none-above c.args.ids.now c.args.id c.requires.rising (λ some. subst (λ n. n < c.args.id) (sym (c.requires.last some)) c.if-last-id.true)
