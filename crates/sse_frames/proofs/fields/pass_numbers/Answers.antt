use Rattle.std.proofs.Common.{◌≡◌, ◌+◌, ◌≤◌, length, false, nat_eq, arith}
use Rattle.std.proofs.lemmas.Bool.{leb-true, ne_eqb, and_parts}
use Rattle.sse_frames.proofs.ListFields.{numbers_go_on}
use Rattle.sse_frames.proofs.fields.pass_numbers.Goals as goal

pub loop-i-preserved : goal.loop-i-preserved
loop-i-preserved c =
    let number = c.in_ok-read_rising.ensures.0 in
    let end : c.loop-i.at + 16 ≤ length c.args.body.now = leb-true _ _ (and_parts _ _ number).0 in
    let later : nat_eq (c.loop-i.i + 1) 0 ≡ false = ne_eqb _ _ (omega arith) in
    record {
      inside = end;
      place = omega (arith, c.loop-i.invariant.place);
      behind = λ _. omega arith;
      same = rw later (numbers_go_on (nat_eq c.loop-i.i 0) c.args.count c.loop-i.i c.loop-i.at c.args.body.now _ c.loop-i-test.true number c.loop-i.invariant.same);
    }
