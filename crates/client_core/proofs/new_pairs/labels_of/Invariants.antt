use Rattle.std.proofs.Common.{◌≡◌, map, take}
use Rattle.client_tag_order.specs.Tagged.{tagged_from}
use Rattle.client_core.proofs.new_pairs.labels_of.Given as goal

abbrev pub invariant-loop-i : goal.invariant-loop-i
invariant-loop-i l = l.labels.items ≡ tagged_from 0 (map (λ entry. entry.label) (take l.i l.entries))
