use Rattle.std.proofs.Common.{◌≡◌, [], length, map, take}
use Rattle.std.specs.Prelude.{slice_index_or}
use Rattle.client_registry.specs.IdNumber.{id_number}
use Rattle.client_registry.specs.Registered.{known_words}
use Rattle.keyed_fn.specs.KeyedFn.{keyed_fn}
use Rattle.client_core.specs.Keys.{Keeps}
use Rattle.client_core.specs.UpdateTexts.{number_of}
use Rattle.client_core.proofs.new_pairs.numbers_of.Given as goal

abbrev pub invariant-loop-place : goal.invariant-loop-place
invariant-loop-place g l = record {
  keeps : Keeps (keyed_fn g.K.Keyed.prf g.K.Keyed.pad) l.master (known_words l.registry) l.fn.keys → Keeps (keyed_fn g.K.Keyed.prf g.K.Keyed.pad) l.master (known_words l.registry) l.keys;
  count : length l.numbers ≡ l.place-index;
  numbers : Keeps (keyed_fn g.K.Keyed.prf g.K.Keyed.pad) l.master (known_words l.registry) l.fn.keys → l.numbers ≡ map (λ place. number_of (keyed_fn g.K.Keyed.prf g.K.Keyed.pad) l.master (id_number l.id) (slice_index_or (known_words l.registry) place.number [])) (take l.place-index l.places);
}
