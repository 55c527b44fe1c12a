use Rattle.std.proofs.Common.{◌≤◌, ◌+◌, length}
use Rattle.client_tag_order.proofs.FoundClash.{IsFound}
use Rattle.client_tag_order.proofs.order.first_clash.Given as goal

abbrev pub invariant-loop-k : goal.invariant-loop-k
invariant-loop-k l = record {
  found : IsFound l.sorted l.k l.found;
  most : l.k ≤ 1 + length l.sorted;
}
