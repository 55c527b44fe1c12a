use Rattle.std.proofs.Common.{ℕ}
use Rattle.std.proofs.lemmas.List.Sorted.{IsNonDecreasingBy-from_sort}
use Rattle.client_replies.proofs.InOrder.{sorted_is-in_order}
use Rattle.world_client.proofs.whole_answers.rising.Goals as goal

pub returns : goal.returns
returns c =
    sorted_is-in_order c.args.ids.items c.sort_unstable.new.self.items c.sort_unstable.ensures.permutation
    (IsNonDecreasingBy-from_sort (λ (x : ℕ). x) c.sort_unstable.new.self.items c.sort_unstable.ensures.sorted)
