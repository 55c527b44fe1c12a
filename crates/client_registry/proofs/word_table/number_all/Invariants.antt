use Rattle.std.proofs.Common.{◌≡◌, ◌<◌, ◌^◌, true, length, map, take}
use Rattle.std.specs.Prelude.{All}
use Rattle.std.specs.List.{list_any, IsDistinct}
use Rattle.std.specs.Str.{bytes_eq}
use Rattle.indexmap.specs.IndexMap.{hasher_of}
use Rattle.client_registry.specs.Numbered.{words_by_number}
use Rattle.client_registry.specs.Tally.{counts_of}
use Rattle.client_registry.specs.WordBytes.{word_bytes}
use Rattle.client_registry.specs.WordTable.{table_words, GivesNumbers}
use Rattle.client_registry.proofs.word_table.number_all.Given as goal

abbrev pub invariant-loop-word : goal.invariant-loop-word
invariant-loop-word g l = record {
  few : length l.words.entries < 2 ^ 32;
  more : GivesNumbers (counts_of l.initial.words.entries) (counts_of l.words.entries);
  differ : IsDistinct bytes_eq (table_words l.initial.words.entries) → IsDistinct bytes_eq (table_words l.words.entries);
  hasher : hasher_of l.words ≡ hasher_of l.initial.words;
  numbered : All (λ word. list_any (bytes_eq word) (table_words l.words.entries) ≡ true) (map word_bytes (take l.word-index l.of));
  numbers : words_by_number (table_words l.words.entries) l.numbers.items ≡ map word_bytes (take l.word-index l.of);
  within : All (λ n. n < length l.words.entries) l.numbers.items;
  count : length l.numbers.items ≡ l.word-index;
}
