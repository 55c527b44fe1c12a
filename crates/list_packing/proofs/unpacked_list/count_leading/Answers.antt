use Rattle.std.proofs.Common.{◌==◌, ◌≤◌, length, below_more, arith, sym, ◌∙◌}
use Rattle.std.proofs.lemmas.Bool.{eq-eqb, ne_eqb}
use Rattle.std.proofs.lemmas.List.Sums.{position_or_len_is}
use Rattle.list_packing.specs.Numbers.{numbers_of}
use Rattle.list_packing.proofs.NumbersLemmas.{length-numbers_of}
use Rattle.list_packing.proofs.unpacked_list.count_leading.Goals as goal

pub loop-place-preserved : goal.loop-place-preserved
loop-place-preserved c = below_more _ _ c.loop-place.invariant (ne_eqb _ _ (λ e. c.if-number_at-eq0.false (c.number_at.ensures ∙ e)))

-- the first zero
pub returns-then-number_at-eq0 : goal.returns-then-number_at-eq0
returns-then-number_at-eq0 c =
    let ns = numbers_of c.args.numbers.now in
    let within : c.loop-place.place ≤ length ns = omega (arith, length-numbers_of c.args.numbers.now c.requires) in
    sym (position_or_len_is (λ n. n == 0) ns c.loop-place.place 0 within c.loop-place.invariant (λ lt. eq-eqb _ _ (sym c.number_at.ensures ∙ c.if-number_at-eq0.true)))

-- no zero
pub returns : goal.returns
returns c =
    let ns = numbers_of c.args.numbers.now in
    let all = length-numbers_of c.args.numbers.now c.requires in
    sym (position_or_len_is (λ n. n == 0) ns _ 0 (omega (arith, all)) (λ k before. c.loop-place.invariant k (omega arith)) (λ lt. absurd (omega (arith, lt, all))))
