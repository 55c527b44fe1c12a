use Rattle.std.proofs.Common.{◌≡◌, suc, ◌+◌, ◌-◌, ◌++◌, ◌∷◌, [], sym, ap, ◌∙◌, arith}
use Rattle.std.specs.List.{range_with_len}
use Rattle.leakage_model.proofs.ListLaws.{range-more}
use Rattle.leakage_model.proofs.pair.HomeAt.home.Goals as goal

pub loop-position-preserved : goal.loop-position-preserved
loop-position-preserved c =
    let first = c.args.self.now.first in
    let p = c.loop-position.position in
    let here : p ≡ first + (p - first) = omega (arith, c.loop-position.auto.position) in
    let next : suc (p - first) ≡ p + 1 - first = omega (arith, c.loop-position.auto.position) in
    record {
      blocks = c.in_ok-push.ensures.ok ∙ (λ i. c.loop-position.invariant.blocks i ++ here i ∷ []) ∙ sym (range-more first (p - first)) ∙ ap (range_with_len first) next;
      within = omega (arith, c.loop-position.auto.position, c.loop-position-test.true);
    }

pub returns : goal.returns
returns c =
    let first = c.args.self.now.first in
    let same : c.loop-position.position - first ≡ c.args.self.now.end - first = omega (arith, c.loop-position.auto.position, c.loop-position.invariant.within, c.loop-position-test.false) in
    λ i. record { entry = c.args.self.now.entry; blocks = (c.loop-position.invariant.blocks ∙ ap (range_with_len first) same) i }
