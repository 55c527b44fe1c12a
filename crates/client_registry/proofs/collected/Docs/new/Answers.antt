use Rattle.std.proofs.Common.{refl, sym, ◌∙◌}
use Rattle.client_registry.proofs.KeptLaws.{indexed_empty}
use Rattle.client_registry.proofs.collected.Docs.new.Goals as goal

pub invariant_of-result : goal.invariant_of-result
invariant_of-result c = indexed_empty (record { documents = c.with_hasher.result; words = c.with_hasher-2.result; pairs = 0 }) c.with_hasher.ensures.empty c.with_hasher-2.ensures.empty refl (c.with_hasher.ensures.hasher ∙ sym c.with_hasher-2.ensures.hasher)
