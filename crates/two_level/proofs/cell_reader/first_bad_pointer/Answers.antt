use Rattle.std.proofs.Common.{◌≡◌, ◌+◌, ◌<◌, true, false, cond, Some, get_or, length, drop, sym, ap, arith, ◌∙◌}
use Rattle.std.specs.List.{position_from}
use Rattle.std.specs.Prelude.{nat_lt}
use Rattle.std.proofs.lemmas.Bool.{lt-ltb, le-ltb}
use Rattle.std.proofs.lemmas.List.{at_drop_more, drop_all}
use Rattle.list_packing.specs.Numbers.{numbers_of}
use Rattle.list_packing.proofs.NumbersLemmas.{length-numbers_of}
use Rattle.two_level.proofs.cell_reader.first_bad_pointer.Goals as goal

pub loop-place-preserved : goal.loop-place-preserved
loop-place-preserved c =
    let ns = numbers_of c.args.pointers.now in
    let blocks = c.args.blocks in
    let i = c.loop-place.place in
    let within : i < length ns = omega (arith, length-numbers_of c.args.pointers.now c.requires) in
    let test : nat_lt blocks (get_or ns i 0) ≡ false = le-ltb blocks (get_or ns i 0) (omega (arith, c.number_at.ensures, c.from.ensures, c.if-number_at-from.false)) in
    c.loop-place.invariant ∙ at_drop_more (position_from (λ pointer. nat_lt blocks pointer) i) ns i 0 within
    ∙ ap (λ b. cond b (Some i) (position_from (λ pointer. nat_lt blocks pointer) (i + 1) (drop (i + 1) ns))) test

pub returns-then-number_at-from : goal.returns-then-number_at-from
returns-then-number_at-from c =
    let ns = numbers_of c.args.pointers.now in
    let blocks = c.args.blocks in
    let i = c.loop-place.place in
    let within : i < length ns = omega (arith, length-numbers_of c.args.pointers.now c.requires) in
    let test : nat_lt blocks (get_or ns i 0) ≡ true = lt-ltb blocks (get_or ns i 0) (omega (arith, c.number_at.ensures, c.from.ensures, c.if-number_at-from.true)) in
    sym (c.loop-place.invariant ∙ at_drop_more (position_from (λ pointer. nat_lt blocks pointer) i) ns i 0 within
    ∙ ap (λ b. cond b (Some i) (position_from (λ pointer. nat_lt blocks pointer) (i + 1) (drop (i + 1) ns))) test)

pub returns : goal.returns
returns c =
    let ns = numbers_of c.args.pointers.now in
    let i = c.loop-place.place in
    sym (c.loop-place.invariant ∙ ap (position_from (λ pointer. nat_lt c.args.blocks pointer) i) (drop_all i ns (omega (arith, length-numbers_of c.args.pointers.now c.requires, c.loop-place-test.false))))
