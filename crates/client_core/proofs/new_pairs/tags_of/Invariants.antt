use Rattle.std.proofs.Common.{◌≡◌, map, take}
use Rattle.client_core.proofs.new_pairs.tags_of.Given as goal

abbrev pub invariant-loop-e : goal.invariant-loop-e
invariant-loop-e l = l.tags.items ≡ map (λ e. e.tag) (take l.e-index l.sorted)
