use Rattle.server_tables.proofs.SlotLemmas.{map_of-nil}
use Rattle.server_tables.proofs.sorted_map.SortedMapLabelMap.clear.Goals as goal

pub returns-clause-entries : goal.returns-clause-entries
returns-clause-entries g c = rw c.clear.ensures.items map_of-nil
