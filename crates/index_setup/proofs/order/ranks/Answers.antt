use Rattle.std.proofs.Common.{ℕ, arith}
use Rattle.index_setup.proofs.RankWrites.{written_more, written_all}
use Rattle.std.proofs.lemmas.List.{length-set}
use Rattle.index_setup.proofs.order.ranks.Goals as goal

pub loop-k-preserved : goal.loop-k-preserved
loop-k-preserved c = record {
  count = omega (arith, length-set {A = ℕ}, c.loop-k.invariant.count);
  written = λ tags is. written_more tags c.args.sorted.now is c.loop-k.k c.loop-k.ranks.items c.loop-k-test.true c.loop-k.invariant.count (c.loop-k.invariant.written tags is);
}

pub returns : goal.returns
returns c = λ tags is. written_all tags c.args.sorted.now is c.loop-k.ranks.items c.loop-k.invariant.count (λ m within. c.loop-k.invariant.written tags is m (omega arith))
