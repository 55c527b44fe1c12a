use Rattle.server_tables.proofs.SlotLemmas.{map_of-nil}
use Rattle.server_tables.proofs.sorted_map.SortedMap.new.Goals as goal

pub returns : goal.returns
returns g c = rw c.new.ensures.items map_of-nil
