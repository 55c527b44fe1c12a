use Rattle.std.proofs.Common.{◌≡◌, take}
use Rattle.client_tag_order.specs.Tagged.{tagged_from}
use Rattle.revocation_ids.proofs.numbers.tagged.Given as goal

abbrev pub invariant-loop-i : goal.invariant-loop-i
invariant-loop-i l = l.tagged.items ≡ tagged_from 0 (take l.i l.numbers)
