use Rattle.std.proofs.Common.{◌≡◌, ◌<◌, map, length, take, sym, ap, ◌∙◌, subst, arith, Some, min}
use Rattle.std.proofs.Math.Nat.{min-le_left, min-le_right}
use Rattle.std.proofs.lemmas.List.{length-map}
use Rattle.leakage_frames.specs.Views.{leak_view}
use Rattle.leakage_differences.proofs.Fronts.{front_longer, ends_first, read}
use Rattle.leakage_differences.proofs.first_difference.Goals as goal

pub loop-k-preserved : goal.loop-k-preserved
loop-k-preserved c =
    let left = c.args.left.now in
    let right = c.args.right.now in
    let k = c.loop-k.k in
    let least = c.min-shared.ensures in
    let in_left : k < length left = omega (arith, c.loop-k-test.true, least, min-le_left (length left) (length right)) in
    let in_right : k < length right = omega (arith, c.loop-k-test.true, least, min-le_right (length left) (length right)) in
    front_longer k (map leak_view left) (map leak_view right) c.loop-k.invariant
    (read leak_view left k c.index-left-k.result in_left c.index-left-k.is ∙ ap (λ item. Some item) (c.same_leak.ensures.0 c.if-not-same_leak.false) ∙ sym (read leak_view right k c.index-right-k.result in_right c.index-right-k.is))

pub returns-else-left-right-clause-first : goal.returns-else-left-right-clause-first
returns-else-left-right-clause-first c =
    let left = map leak_view c.args.left.now in
    let right = map leak_view c.args.right.now in
    let as_many = length-map c.args.left.now leak_view in
    let as_many2 = length-map c.args.right.now leak_view in
    let least : c.min-shared.result ≡ min (length left) (length right) = c.min-shared.ensures ∙ (λ i. min (sym as_many i) (sym as_many2 i)) in
    let at : c.loop-k.k ≡ c.min-shared.result = omega (arith, c.loop-k-test.false, c.loop-k.auto.k-end) in
    ends_first c.min-shared.result left right least (λ e. c.if-left-right.false (sym as_many ∙ e ∙ as_many2))
    (subst (λ n. take n left ≡ take n right) at c.loop-k.invariant)
