use Rattle.std.proofs.lemmas.List.Sorted.{IsNonDecreasingBy-from_sort}
use Rattle.client_registry.proofs.listed.Listed.retire.Goals as goal

pub returns-clause-in_order : goal.returns-clause-in_order
returns-clause-in_order c = IsNonDecreasingBy-from_sort (λ n. n) c.sort_unstable.new.self.items c.sort_unstable.ensures.sorted
