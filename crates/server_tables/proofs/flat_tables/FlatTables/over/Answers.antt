use Rattle.server_tables.proofs.TableLemmas.{nothing_held, nothing_placed}
use Rattle.server_tables.proofs.flat_tables.FlatTables.over.Goals as goal

pub returns : goal.returns
returns g c = nothing_held _ _ c.requires.no_labels c.new-2.ensures.items _ _ _ _ c.requires.no_additions c.requires.none_revoked

pub invariant_of-result : goal.invariant_of-result
invariant_of-result g c = nothing_placed _ _ c.requires.no_labels c.new-2.ensures.items _ _
