use Rattle.std.proofs.Common.{◌≡◌, ◌≤◌, length, map, take}
use Rattle.std.specs.Vec.{vec_capacity, vec_len}
use Rattle.client_registry.specs.Registered.{known_words}
use Rattle.client_registry.specs.Numbered.{words_by_number}
use Rattle.client_registry.specs.WordBytes.{word_bytes}
use Rattle.client_live_docs.proofs.collected.copy_kept.Given as goal

abbrev pub invariant-loop-number : goal.invariant-loop-number
invariant-loop-number l = record {
  words : map word_bytes l.words.items ≡ words_by_number (known_words l.fn.registry) (take l.number-index l.number-items);
  count : vec_len l.words ≡ l.number-index;
  room : length l.number-items ≤ vec_capacity l.words;
}
