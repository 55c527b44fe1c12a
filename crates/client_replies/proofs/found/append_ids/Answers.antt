use Rattle.std.proofs.Common.{◌+◌, ◌-◌, ◌*◌, arith}
use Rattle.client_replies.proofs.Appended.{one_more}
use Rattle.client_replies.proofs.found.append_ids.Goals as goal

pub loop-i-preserved : goal.loop-i-preserved
loop-i-preserved c = record {
  room = omega (arith, c.push_reserved.ensures.len, c.push_reserved.ensures.capacity, c.loop-i.invariant.room);
  appended = one_more _ _ _ c.args.ids.now c.loop-i.i c.number_of.result (8 * c.loop-i.i + 8 - 8 * c.loop-i.i) (omega arith) c.loop-i.invariant.appended c.push_reserved.ensures.items c.number_of.ensures;
}
