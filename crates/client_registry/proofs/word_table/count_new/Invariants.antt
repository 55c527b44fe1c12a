use Rattle.std.proofs.Common.{◌≡◌, ◌+◌, ◌&&◌, not, ℕ, length, take, nat_eq, get_or}
use Rattle.std.specs.Prelude.{if◌then◌else◌}
use Rattle.std.specs.List.{list_any}
use Rattle.std.specs.Map.{values_of}
use Rattle.indexmap.specs.IndexMap.{hasher_of}
use Rattle.client_registry.specs.WordTable.{table_words}
use Rattle.client_registry.proofs.word_table.count_new.Given as goal

abbrev pub invariant-loop-number : goal.invariant-loop-number
invariant-loop-number l = record {
  words : table_words l.words.entries ≡ table_words l.initial.words.entries;
  count : length l.words.entries ≡ length l.initial.words.entries;
  hasher : hasher_of l.words ≡ hasher_of l.initial.words;
  counts : (n : ℕ) → get_or (values_of l.words.entries) n 0 ≡ get_or (values_of l.initial.words.entries) n 0 + (if list_any (nat_eq n) (take l.number-index l.numbers) && not (list_any (nat_eq n) l.listed) then 1 else 0);
}
