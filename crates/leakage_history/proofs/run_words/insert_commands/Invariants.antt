use Rattle.std.proofs.Common.{◌≡◌, ◌++◌, ℕ, List, map, take}
use Rattle.std.specs.Prelude.{flat_map}
use Rattle.client_registry.specs.Documents.{first_seen}
use Rattle.client_registry.specs.Sized.{words_named}
use Rattle.client_registry.specs.WordBytes.{word_bytes}
use Rattle.leakage_history.specs.Commands.{command_of}
use Rattle.leakage_history.proofs.run_words.insert_commands.Given as goal

abbrev pub invariant-loop-command : goal.invariant-loop-command
invariant-loop-command l = (ws : List (List ℕ)) → map word_bytes l.initial.words.keys ≡ first_seen ws → map word_bytes l.words.keys ≡ first_seen (ws ++ flat_map words_named (map command_of (take l.command-index l.fn.commands)))
