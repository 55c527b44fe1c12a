use Rattle.std.proofs.Common.{◌+◌, ◌≤◌, length, arith}
use Rattle.std.proofs.lemmas.Bool.{leb-true}
use Rattle.sse_frames.proofs.ListFields.{blocks_go_on}
use Rattle.sse_frames.proofs.fields.pass_blocks.Goals as goal

pub loop-preserved : goal.loop-preserved
loop-preserved c =
    let block = c.in_ok-read_bytes.ensures.0 in
    let end : c.loop.at + c.args.width ≤ length c.args.body.now = leb-true _ _ block in
    record {
      inside = end;
      place = omega (arith, c.loop.invariant.place);
      same = blocks_go_on c.args.width c.args.count c.loop.counter c.loop.at c.args.body.now _ c.loop-test.true block c.loop.invariant.same;
    }
