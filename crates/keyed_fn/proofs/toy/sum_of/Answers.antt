use Rattle.std.proofs.Common.{◌+◌, ◌*◌, arith, ap, sym}
use Rattle.std.specs.Prelude.{slice_index}
use Rattle.keyed_fn.proofs.ToySum.{one_more_weight}
use Rattle.keyed_fn.proofs.toy.sum_of.Goals as goal

pub loop-j-preserved : goal.loop-j-preserved
loop-j-preserved c = record {
  low = omega arith;
  so_far = one_more_weight (λ j. (j + 1) * slice_index c.args.bytes.now j) c.loop-j.sum c.loop-j.j c.from.result
      c.loop-j.invariant.so_far
      (ap (λ b. (c.loop-j.j + 1) * b) (sym c.from.ensures));
}
