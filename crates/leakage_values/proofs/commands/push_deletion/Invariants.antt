use Rattle.std.proofs.Common.{◌≡◌, ◌++◌, take}
use Rattle.std.specs.Prelude.{flat_map}
use Rattle.client_registry.specs.IdNumber.{id_number}
use Rattle.client_registry.specs.Numbered.{words_by_number}
use Rattle.client_registry.specs.Registered.{known_words}
use Rattle.leakage_values.specs.CommandDrawings.{deletion_piece}
use Rattle.leakage_values.proofs.commands.push_deletion.Given as goal

abbrev pub invariant-loop-number : goal.invariant-loop-number
invariant-loop-number l = l.drawings ≡ l.initial.drawings ++ flat_map (deletion_piece l.epoch l.words l.sent.keys (id_number l.id)) (words_by_number (known_words l.registry) (take l.number-index l.numbers))
