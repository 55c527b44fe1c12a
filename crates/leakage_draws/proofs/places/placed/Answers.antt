use Rattle.std.proofs.Common.{◌≡◌, ◌<◌, length, take, get_or, true, is_some, sym, subst, arith}
use Rattle.std.specs.Prelude.{All}
use Rattle.std.proofs.lemmas.List.{take_all, take_more}
use Rattle.std.proofs.lemmas.List.Elements.{All-push}
use Rattle.leakage_values.specs.Held.{Holds}
use Rattle.leakage_names.specs.Sheets.{value_at}
use Rattle.leakage_draws.proofs.PlacedLaws.{value_here}
use Rattle.leakage_draws.proofs.places.placed.Goals as goal

pub loop-i-init : goal.loop-i-init
loop-i-init c = record {
  valued = λ k d low. absurd (omega (arith, low));
  held = λ value are n. c.new-moved.ensures n;
}

pub loop-i-preserved : goal.loop-i-preserved
loop-i-preserved c =
    let i = c.loop-i.i in
    let from = c.args.from.now in
    let to = c.args.to.now in
    let within : i < length from = c.loop-i-test.true in
    let inside : i < length to = omega (arith, within, c.requires) in
    record {
      valued = subst (All (λ n. is_some (value_at c.args.sheet.now n) ≡ true)) (sym (take_more from i _ within))
          (All-push (λ n. is_some (value_at c.args.sheet.now n) ≡ true) (take i from) (get_or from i _) c.loop-i.invariant.valued c.in_ok-place.ensures.valued);
      held = λ value are.
          subst (λ ns. Holds c.place.new.moved ns value) (sym (take_more to i _ inside))
          (c.in_ok-place.ensures.held (take i to) value
          (value_here c.args.sheet.now value from to c.args.ones.now c.args.others.now i _ _ c.text_at.result.now c.text_at-in-loop-i.result.now c.requires within are c.text_at.ensures c.text_at-in-loop-i.ensures)
          (c.loop-i.invariant.held value are));
    }

pub returns-clause-valued : goal.returns-clause-valued
returns-clause-valued c = subst (All (λ n. is_some (value_at c.args.sheet.now n) ≡ true)) (take_all c.loop-i.i c.args.from.now c.loop-i-test.false) c.loop-i.invariant.valued

pub returns-clause-held : goal.returns-clause-held
returns-clause-held c = λ value are.
    subst (λ ns. Holds c.loop-i.moved ns value) (take_all c.loop-i.i c.args.to.now (omega (arith, c.requires, c.loop-i-test.false))) (c.loop-i.invariant.held value are)
