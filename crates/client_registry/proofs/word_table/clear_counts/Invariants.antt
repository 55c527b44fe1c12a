use Rattle.std.proofs.Common.{◌≡◌, length, take}
use Rattle.std.specs.Prelude.{All}
use Rattle.indexmap.specs.IndexMap.{hasher_of}
use Rattle.client_registry.specs.WordTable.{table_words}
use Rattle.client_registry.proofs.word_table.clear_counts.Given as goal

abbrev pub invariant-loop-number : goal.invariant-loop-number
invariant-loop-number l = record {
  words : table_words l.words.entries ≡ table_words l.initial.words.entries;
  count : length l.words.entries ≡ length l.initial.words.entries;
  hasher : hasher_of l.words ≡ hasher_of l.initial.words;
  cleared : All (λ e. e.1 ≡ 0) (take l.number l.words.entries);
}
