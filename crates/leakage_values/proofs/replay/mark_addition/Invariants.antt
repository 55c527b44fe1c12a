use Rattle.std.proofs.Common.{◌≡◌, ◌&&◌, ◌||◌, ℕ, List, map, take}
use Rattle.std.specs.Prelude.{bytes_eq, ◌==◌}
use Rattle.std.specs.List.{list_any}
use Rattle.client_registry.specs.IdNumber.{id_number}
use Rattle.client_registry.specs.Registered.{facts}
use Rattle.client_registry.specs.WordBytes.{word_bytes}
use Rattle.leakage_values.specs.Replayed.{has_pair}
use Rattle.leakage_values.proofs.replay.mark_addition.Given as goal

abbrev pub invariant-loop-word : goal.invariant-loop-word
invariant-loop-word l = (w : List ℕ) (n : ℕ) → has_pair w n l.sent.keys ≡ (has_pair w n l.initial.sent.keys || (list_any (bytes_eq w) (map word_bytes (take l.word-index l.words)) && n == id_number l.id) && (facts l.registry).listed w n)
