use Rattle.std.proofs.Common.{◌≡◌, ◌<◌, All, filter, length, not, take}
use Rattle.client_registry.specs.IdNumber.{id_number}
use Rattle.client_registry.specs.Registered.{known_words}
use Rattle.revocation_ids.specs.Places.{fresh_places, listed_places}
use Rattle.revocation_ids.proofs.split_words.split.Given as goal

abbrev pub invariant-loop-i : goal.invariant-loop-i
invariant-loop-i l = record {
  fresh : l.fresh.items ≡ fresh_places l.registry (id_number l.id) (take l.i l.numbers);
  listed : l.listed.items ≡ listed_places l.registry (id_number l.id) (take l.i l.numbers);
  fresh_numbers : All (λ place. place.number < length (known_words l.registry)) l.fresh.items;
  listed_numbers : All (λ place. place.number < length (known_words l.registry)) l.listed.items;
}
