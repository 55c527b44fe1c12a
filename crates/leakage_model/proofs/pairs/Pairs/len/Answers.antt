use Rattle.std.proofs.Common.{◌+◌, length, sym, ap, ◌∙◌}
use Rattle.std.proofs.lemmas.List.{length-append, length-map}
use Rattle.leakage_model.proofs.BesideLaws.{length-beside}
use Rattle.leakage_model.specs.Pairs.{pair_view, pairs_beside, pairs_in}
use Rattle.leakage_model.proofs.pairs.Pairs.len.Goals as goal

pub returns : goal.returns
returns c =
    let w = c.self.inside in
    (λ i. (c.len.ensures ∙ w.ids.ok.0 ∙ sym (length-beside w.ids.items w.front.items c.self.invariant.beside)) i + (c.len-2.ensures.len ∙ sym (length-map w.rest.entries pair_view)) i)
    ∙ sym (length-append (pairs_beside w.ids.items w.front.items) (pairs_in w.rest.entries))
    ∙ ap length c.self.view_is
