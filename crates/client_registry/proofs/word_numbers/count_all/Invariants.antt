use Rattle.std.proofs.Common.{◌≡◌, ◌+◌, ◌<◌, ◌≤◌, ◌^◌, length, map, vec_capacity, vec_len}
use Rattle.std.specs.Prelude.{All, fold}
use Rattle.indexmap.specs.IndexMap.{hasher_of, spare}
use Rattle.client_registry.specs.Numbered.{words_by_number}
use Rattle.client_registry.specs.Tally.{counted_up, counts_of}
use Rattle.client_registry.specs.WordBytes.{word_bytes}
use Rattle.client_registry.specs.WordTable.{table_words}
use Rattle.client_registry.proofs.word_numbers.count_all.Given as goal

abbrev pub invariant-loop-word : goal.invariant-loop-word
invariant-loop-word l = record {
  counted : counts_of l.words.entries ≡ fold counted_up (counts_of l.initial.words.entries) (map word_bytes l.yielded);
  numbers : words_by_number (table_words l.words.entries) l.numbers.items ≡ map word_bytes l.yielded;
  within : All (λ n. n < length l.words.entries) l.numbers.items;
  room : vec_len l.fn.of ≤ spare l.words + length l.yielded;
  small : All (λ e. e.1 + vec_len l.fn.of < 2 ^ 32 + length l.yielded) (counts_of l.words.entries);
  few : length l.words.entries ≤ length l.initial.words.entries + length l.yielded;
  count : vec_len l.numbers ≡ length l.yielded;
  capacity : vec_len l.fn.of ≤ vec_capacity l.numbers;
  hasher : hasher_of l.words ≡ hasher_of l.initial.words;
}
