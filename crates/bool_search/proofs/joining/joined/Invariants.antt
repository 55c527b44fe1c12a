use Rattle.std.proofs.Common.{◌+◌, length}
use Rattle.bool_search.proofs.NumbersJoined.{HasJoined}
use Rattle.bool_search.proofs.joining.joined.Given as goal

abbrev pub invariant-ids : goal.invariant-ids
invariant-ids l = record {
  joined : HasJoined l.join l.left l.right l.ids.items l.left_rest l.right_rest;
}

abbrev pub decreases-ids : goal.decreases-ids
decreases-ids l = length l.left_rest + length l.right_rest
