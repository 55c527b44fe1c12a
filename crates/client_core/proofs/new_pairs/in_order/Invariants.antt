use Rattle.std.proofs.Common.{◌≡◌, map, take}
use Rattle.client_core.proofs.OrderedEntries.{entry_at}
use Rattle.client_core.proofs.new_pairs.in_order.Given as goal

abbrev pub invariant-loop-label : goal.invariant-loop-label
invariant-loop-label l = l.sorted.items ≡ map (entry_at l.entries) (take l.label-index l.order)
