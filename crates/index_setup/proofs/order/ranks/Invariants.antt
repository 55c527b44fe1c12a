use Rattle.std.proofs.Common.{◌≡◌, ℕ, ◌<◌, List, length, get_or}
use Rattle.sse_model.specs.Positions.{ranks_of}
use Rattle.client_tag_order.specs.Tagged.{IsOrderOf}
use Rattle.client_tag_order.proofs.FoundClash.{at}
use Rattle.client_tag_order.proofs.InOrder.{pos}
use Rattle.index_setup.proofs.order.ranks.Given as goal

-- the positions of the first k of the sorted have their ranks
abbrev pub invariant-loop-k : goal.invariant-loop-k
invariant-loop-k l = record {
  count : length l.ranks.items ≡ length l.sorted;
  written : (tags : List (List ℕ)) → IsOrderOf tags l.sorted → (m : ℕ) → m < l.k → get_or l.ranks.items (pos (at l.sorted m)) 0 ≡ get_or (ranks_of tags) (pos (at l.sorted m)) 0;
}
