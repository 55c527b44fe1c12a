use Rattle.std.proofs.Common.{ℕ, ap, ◌∙◌}
use Rattle.std.proofs.lemmas.List.Sorted.{IsNonDecreasingBy-from_sort}
use Rattle.client_registry.specs.Live.{in_order}
use Rattle.client_replies.proofs.InOrder.{sorted_is-in_order}
use Rattle.client_replies.proofs.found.Found.finish.Goals as goal

pub returns : goal.returns
returns c =
    sorted_is-in_order c.self.inside.ids.items c.sort_unstable.new.self.items c.sort_unstable.ensures.permutation
    (IsNonDecreasingBy-from_sort (λ (x : ℕ). x) c.sort_unstable.new.self.items c.sort_unstable.ensures.sorted)
    ∙ ap (λ found. in_order found.ids) c.self.view_is
