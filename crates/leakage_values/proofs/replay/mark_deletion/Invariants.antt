use Rattle.std.proofs.Common.{◌≡◌, ◌&&◌, ◌||◌, ℕ, List, take}
use Rattle.std.specs.Prelude.{bytes_eq, ◌==◌}
use Rattle.std.specs.List.{list_any}
use Rattle.client_registry.specs.IdNumber.{id_number}
use Rattle.client_registry.specs.Numbered.{words_by_number}
use Rattle.client_registry.specs.Registered.{known_words}
use Rattle.leakage_values.specs.Replayed.{has_pair}
use Rattle.leakage_values.proofs.replay.mark_deletion.Given as goal

abbrev pub invariant-loop-number : goal.invariant-loop-number
invariant-loop-number l = (w : List ℕ) (n : ℕ) → has_pair w n l.sent.keys ≡ (has_pair w n l.initial.sent.keys || list_any (bytes_eq w) (words_by_number (known_words l.registry) (take l.number-index l.numbers)) && n == id_number l.id)
