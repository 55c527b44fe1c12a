use Rattle.std.proofs.Common.{length-append, ◌∙◌, arith}
use Rattle.tcp_service.proofs.Pieces.{both_read, after}
use Rattle.tcp_service.proofs.head.read_full.Goals as goal

pub loop-done-preserved : goal.loop-done-preserved
loop-done-preserved g c = record {
  within = omega (arith, length-append c.split_at_mut-room.result.0.now c.read.new.out, c.split_at_mut-room.ensures.front_len, c.in-Ok.ensures.bound.0, c.loop-done.invariant.within);
  long = omega (arith, length-append c.split_at_mut-room.result.0.now c.read.new.out, c.split_at_mut-room.ensures.front_len, c.split_at_mut-room.ensures.back_len, c.read.auto.out, c.loop-done.invariant.within, c.loop-done.invariant.long);
  front = both_read _ _ _ _ _ _ c.loop-done.invariant.front c.in-Ok.ensures.bytes
      (after c.loop-done.done c.in-Ok.count c.split_at_mut-room.result.0.now c.read.new.out c.loop-done.out (omega (arith, c.split_at_mut-room.ensures.front_len)) c.split_at_mut-room.ensures.front);
  steady = c.in-Ok.ensures.cause.steady ∙ c.loop-done.invariant.steady;
}
