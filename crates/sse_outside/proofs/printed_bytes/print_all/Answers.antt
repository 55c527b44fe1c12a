use Rattle.std.proofs.Common.{◌∙◌, arith}
use Rattle.sse_outside.proofs.Known.{append_known-front}
use Rattle.sse_outside.proofs.printed_bytes.print_all.Goals as goal

pub loop-done-preserved : goal.loop-done-preserved
loop-done-preserved g c = record {
  within = omega (arith, c.in_ok-done.ensures.some, c.split_at.ensures.back_len);
  front = append_known-front _ _ _ _ _ _ _ c.loop-done.invariant.front c.split_at.ensures.back c.in_ok-done.ensures.bytes;
  steady = c.in_ok-done.ensures.steady ∙ c.loop-done.invariant.steady;
  supplied = c.in_ok-done.ensures.supplied ∙ c.loop-done.invariant.supplied;
}
