use Rattle.std.proofs.Common.{◌≡◌, ◌+◌, ◌≤◌, ◌++◌, length, map, take, vec_capacity, vec_len}
use Rattle.std.specs.List.{flat_map}
use Rattle.client_registry.specs.WordBytes.{word_bytes}
use Rattle.client_records.specs.Records.{word_field}
use Rattle.client_records.proofs.record_bytes.put_words.Given as goal

abbrev pub invariant-loop-word : goal.invariant-loop-word
invariant-loop-word l = record {
  items : l.out.items ≡ l.initial.out.items ++ flat_map word_field (take l.word-index (map word_bytes l.words));
  len : vec_len l.out ≡ vec_len l.initial.out + length (flat_map word_field (take l.word-index (map word_bytes l.words)));
  room : vec_capacity l.initial.out ≤ vec_capacity l.out;
}
