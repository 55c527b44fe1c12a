use Rattle.std.proofs.Common.{◌≡◌, ◌++◌, ℕ, List, map, take}
use Rattle.client_registry.specs.Documents.{first_seen}
use Rattle.client_registry.specs.WordBytes.{word_bytes}
use Rattle.leakage_history.proofs.run_words.insert_all.Given as goal

abbrev pub invariant-loop-word : goal.invariant-loop-word
invariant-loop-word l = (ws : List (List ℕ)) → map word_bytes l.initial.words.keys ≡ first_seen ws → map word_bytes l.words.keys ≡ first_seen (ws ++ map word_bytes (take l.word-index l.fn.more))
