use Rattle.std.proofs.Common.{◌≡◌, ◌++◌, map, take}
use Rattle.std.specs.Prelude.{flat_map}
use Rattle.client_registry.specs.IdNumber.{id_number}
use Rattle.client_registry.specs.Registered.{facts}
use Rattle.client_registry.specs.WordBytes.{word_bytes}
use Rattle.leakage_values.specs.CommandDrawings.{addition_piece}
use Rattle.leakage_values.proofs.commands.push_addition.Given as goal

abbrev pub invariant-loop-word : goal.invariant-loop-word
invariant-loop-word l = l.drawings ≡ l.initial.drawings ++ flat_map (addition_piece l.epoch l.words (facts l.registry) (id_number l.id)) (map word_bytes (take l.word-index l.of))
