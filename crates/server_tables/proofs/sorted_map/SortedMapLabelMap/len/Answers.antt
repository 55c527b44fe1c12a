use Rattle.std.proofs.Common.{sym, ap, ◌∙◌}
use Rattle.std.specs.FinMap as map
use Rattle.server_tables.proofs.SlotLemmas.{len-map_of}
use Rattle.server_tables.proofs.sorted_map.SortedMapLabelMap.len.Goals as goal

-- a label for each slot
pub returns : goal.returns
returns g c = c.len.ensures ∙ c.self.inside.slots.ok.0 ∙ sym (len-map_of _ c.self.invariant) ∙ ap (λ m. map.len m.0) c.self.view_is
