use Rattle.std.proofs.Common.{◌≡◌, map, take}
use Rattle.std.specs.List.{range_with_len}
use Rattle.client_core.proofs.update_plans.places_of.Given as goal

abbrev pub invariant-loop-i : goal.invariant-loop-i
invariant-loop-i l = record {
  numbers : map (λ place. place.number) l.places.items ≡ take l.i l.numbers;
  positions : map (λ place. place.position) l.places.items ≡ range_with_len 0 l.i;
}
