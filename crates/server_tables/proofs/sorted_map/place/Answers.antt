use Rattle.std.proofs.Common.{rules}
use Rattle.std.proofs.lemmas.List.Sorted.{answers_always}
use Rattle.server_tables.proofs.SlotLemmas.{place_of}
use Rattle.server_tables.proofs.sorted_map.place.Goals as goal

-- the closure gives a slot's label
pub returns : goal.returns
returns g c =
    place_of c.args.slots.now c.args.label.now c.requires c.binary_search_by_key.result c.binary_search_by_key.ensures.bound (c.binary_search_by_key.ensures.position (λ s. s.label) (answers_always _ _ _ (λ f a r g called. search rules)))
