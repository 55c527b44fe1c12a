use Rattle.server_tables.proofs.TableLemmas.{nothing_held, nothing_placed}
use Rattle.server_tables.proofs.flat_tables.FlatTablesTables.clear.Goals as goal

pub returns-clause-contents : goal.returns-clause-contents
returns-clause-contents g c = nothing_held _ _ c.clear.ensures.entries c.clear-3.ensures.items _ _ _ _ c.clear-5.ensures.entries c.clear-6.ensures.entries

pub invariant_of-self : goal.invariant_of-self
invariant_of-self g c = nothing_placed _ _ c.clear.ensures.entries c.clear-3.ensures.items _ _
