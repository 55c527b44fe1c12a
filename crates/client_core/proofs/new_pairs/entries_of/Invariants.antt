use Rattle.std.proofs.Common.{◌≡◌, [], length, map, take}
use Rattle.std.specs.Prelude.{slice_index_or}
use Rattle.add_counters.specs.NewEntry.{entry_text}
use Rattle.client_registry.specs.IdNumber.{id_number}
use Rattle.client_registry.specs.Registered.{facts, known_words}
use Rattle.keyed_fn.specs.KeyedFn.{keyed_fn}
use Rattle.client_core.specs.Keys.{Keeps}
use Rattle.client_core.specs.UpdateTexts.{next_entry_of}
use Rattle.client_core.proofs.new_pairs.entries_of.Given as goal

abbrev pub invariant-loop-place : goal.invariant-loop-place
invariant-loop-place g l = record {
  keeps : Keeps (keyed_fn g.K.Keyed.prf g.K.Keyed.pad) l.master (known_words l.registry) l.fn.keys → Keeps (keyed_fn g.K.Keyed.prf g.K.Keyed.pad) l.master (known_words l.registry) l.keys;
  count : length l.entries.items ≡ l.place-index;
  entries : Keeps (keyed_fn g.K.Keyed.prf g.K.Keyed.pad) l.master (known_words l.registry) l.fn.keys → map entry_text l.entries.items ≡ map (λ place. next_entry_of (keyed_fn g.K.Keyed.prf g.K.Keyed.pad) l.master (facts l.registry) (id_number l.id) (slice_index_or (known_words l.registry) place.number [])) (take l.place-index l.places);
}
