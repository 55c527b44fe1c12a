use Rattle.std.proofs.Common.{◌≡◌, map, take}
use Rattle.client_registry.specs.Documents.{first_seen, words_of}
use Rattle.client_registry.specs.WordBytes.{word_bytes}
use Rattle.leakage_history.proofs.run_words.insert_setup.Given as goal

abbrev pub invariant-loop-number : goal.invariant-loop-number
invariant-loop-number l = map word_bytes l.words.keys ≡ first_seen (take l.number (words_of l.fn.docs.documents))
