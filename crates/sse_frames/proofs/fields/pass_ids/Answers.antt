use Rattle.std.proofs.Common.{arith}
use Rattle.sse_frames.proofs.ListFields.{ids_go_on}
use Rattle.sse_frames.proofs.Numbers.{stands64}
use Rattle.sse_frames.proofs.fields.pass_ids.Goals as goal

pub loop-preserved : goal.loop-preserved
loop-preserved c =
    let id = c.in_ok-read_id.ensures.0 in
    let stands = stands64 1 0xffffffffffffffff c.loop.at c.args.body.now id in
    record {
      inside = stands.inside;
      place = omega (arith, c.loop.invariant.place);
      same = ids_go_on c.args.count c.loop.counter c.loop.at c.args.body.now _ c.loop-test.true id c.loop.invariant.same;
    }
