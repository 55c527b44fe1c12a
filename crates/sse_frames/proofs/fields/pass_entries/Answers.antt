use Rattle.std.proofs.Common.{◌≡◌, ◌+◌, ◌≤◌, length, false, nat_eq, arith}
use Rattle.std.proofs.lemmas.Bool.{leb-true, ne_eqb}
use Rattle.sse_frames.proofs.ListFields.{entries_go_on}
use Rattle.sse_frames.proofs.fields.pass_entries.Goals as goal

pub loop-i-preserved : goal.loop-i-preserved
loop-i-preserved c =
    let text = c.in_ok-read_bytes.ensures.0 in
    let end : c.loop-i.at + 16 + c.args.width ≤ length c.args.body.now = leb-true _ _ text in
    let later : nat_eq (c.loop-i.i + 1) 0 ≡ false = ne_eqb _ _ (omega arith) in
    record {
      inside = omega arith;
      place = omega (arith, c.loop-i.invariant.place);
      behind = λ _. omega arith;
      same = rw later (entries_go_on (nat_eq c.loop-i.i 0) c.args.width c.args.count c.loop-i.i c.loop-i.at c.args.body.now _ c.loop-i-test.true c.in_ok-read_rising.ensures.0 text c.loop-i.invariant.same);
    }
