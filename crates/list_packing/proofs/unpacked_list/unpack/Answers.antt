use Rattle.std.proofs.Common.{◌≡◌, ℕ, ◌+◌, ◌<◌, cond, not, ◌==◌, true, false, None, Some, get_or, length, take, drop, sym, ap, arith, ◌∙◌}
use Rattle.std.specs.Option.{option_map_or}
use Rattle.std.specs.List.{position_from}
use Rattle.std.specs.Prelude.{Option, Result, Err, Ok}
use Rattle.std.proofs.lemmas.Bool.{eq-eqb, ne_eqb}
use Rattle.std.proofs.lemmas.List.{at_drop_more, drop_all}
use Rattle.std.proofs.lemmas.List.Sums.{prefix_len-le-length}
use Rattle.list_packing.specs.LeadingNumbers.{first_hole, leading_count}
use Rattle.list_packing.specs.declared.hole.HoleInBlock.{HoleInBlock}
use Rattle.list_packing.specs.Numbers.{numbers_of}
use Rattle.list_packing.proofs.LeadingLemmas.{is_number, unless_hole, first_hole-behind, leading-first_hole}
use Rattle.list_packing.proofs.NumbersLemmas.{length-numbers_of}
use Rattle.list_packing.proofs.unpacked_list.unpack.Goals as goal

-- the answer at this hole and this count
abbrev answer : Option ℕ → ℕ → Result ℕ HoleInBlock
answer hole count = option_map_or (λ place. Err (record { 0 = place })) hole (Ok count)

pub loop-place-init : goal.loop-place-init
loop-place-init c = let ns = numbers_of c.args.block.now in first_hole-behind ns ∙ ap (λ k. position_from is_number k (drop k ns)) (sym c.count_leading-count.ensures)

pub loop-place-preserved : goal.loop-place-preserved
loop-place-preserved c =
    let ns = numbers_of c.args.block.now in
    let i = c.loop-place.place in
    let within : i < length ns = omega (arith, length-numbers_of c.args.block.now c.requires) in
    let test : is_number (get_or ns i 0) ≡ false = ap not (eq-eqb (get_or ns i 0) 0 (sym c.number_at.ensures ∙ c.if-number_at-ne0.false)) in
    c.loop-place.invariant ∙ at_drop_more (position_from is_number i) ns i 0 within
    ∙ ap (λ b. cond b (Some i) (position_from is_number (i + 1) (drop (i + 1) ns))) test

pub returns-then-number_at-ne0 : goal.returns-then-number_at-ne0
returns-then-number_at-ne0 c =
    let ns = numbers_of c.args.block.now in
    let i = c.loop-place.place in
    let within : i < length ns = omega (arith, length-numbers_of c.args.block.now c.requires) in
    let test : is_number (get_or ns i 0) ≡ true = ap not (ne_eqb (get_or ns i 0) 0 (λ e. c.if-number_at-ne0.true (c.number_at.ensures ∙ e))) in
    let hole : first_hole ns ≡ Some i =
    c.loop-place.invariant ∙ at_drop_more (position_from is_number i) ns i 0 within
    ∙ ap (λ b. cond b (Some i) (position_from is_number (i + 1) (drop (i + 1) ns))) test in
    record {
      exact = sym (ap (λ o. answer o (leading_count ns)) hole);
      within = tt;
      front = tt;
      none = leading-first_hole ns ∙ ap (λ o. unless_hole o (take (leading_count ns) ns)) hole;
    }

pub returns : goal.returns
returns c =
    let ns = numbers_of c.args.block.now in
    let i = c.loop-place.place in
    let count = c.count_leading-count.result in
    let none : first_hole ns ≡ None =
    c.loop-place.invariant ∙ ap (position_from is_number i) (drop_all i ns (omega (arith, length-numbers_of c.args.block.now c.requires, c.loop-place-test.false))) in
    record {
      exact =
          ap (λ n. answer None n) c.count_leading-count.ensures
          ∙ ap (λ o. answer o (leading_count ns)) (sym none);
      within = omega (arith, length-numbers_of c.args.block.now c.requires, prefix_len-le-length (λ n. not (n == 0)) ns, c.count_leading-count.ensures);
      front =
          leading-first_hole ns
          ∙ ap (λ o. unless_hole o (take (leading_count ns) ns)) none
          ∙ ap (λ n. Some (take n ns)) (sym c.count_leading-count.ensures);
      none = tt;
    }
